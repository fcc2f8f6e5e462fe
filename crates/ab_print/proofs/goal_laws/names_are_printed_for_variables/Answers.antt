use Rattle.ab_print.proofs.Naming.{printed_told}
use Rattle.ab_print.proofs.goal_laws.names_are_printed_for_variables.Goals as goal

pub returns : goal.returns
returns c = λ name t. printed_told name t
