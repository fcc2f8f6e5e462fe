use Rattle.ab_answers.proofs.Commands.{word_named}
use Rattle.ab_answers.proofs.command_laws.hypotheses_of_induction_find_names.Goals as goal

pub returns : goal.returns
returns c = word_named
