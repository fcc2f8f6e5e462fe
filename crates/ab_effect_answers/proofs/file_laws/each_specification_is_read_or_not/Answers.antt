use Rattle.ab_effect_answers.proofs.Files.{specification_answered}
use Rattle.ab_effect_answers.proofs.file_laws.each_specification_is_read_or_not.Goals as goal

pub returns : goal.returns
returns c = λ before x. specification_answered x before
