use Rattle.ab_effect_answers.proofs.Effects.{effect_answered}
use Rattle.ab_effect_answers.proofs.effect_laws.each_command_has_an_effect.Goals as goal

pub returns : goal.returns
returns c = effect_answered
