use Rattle.ab_print.proofs.Shown.{goal_so, other_so}
use Rattle.ab_print.proofs.goal_laws.goals_are_printed_for_sequents.Goals as goal

pub returns : goal.returns
returns c = record { first = λ name s calls only. goal_so name s calls only; others = λ name s number calls only. other_so name s calls only number }
