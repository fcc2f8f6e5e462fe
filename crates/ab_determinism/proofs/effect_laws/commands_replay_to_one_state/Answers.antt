use Rattle.ab_determinism.proofs.Effects.{one_replay}
use Rattle.ab_determinism.proofs.effect_laws.commands_replay_to_one_state.Goals as goal

pub returns : goal.returns
returns c = λ s t u commands sound a b. one_replay sound a b
