use Rattle.ab_existence.proofs.Erased.{parts_of_induction, induction_whole, parts_of_coinduction, coinduction_whole}
use Rattle.ab_existence.proofs.rule_laws.induction_changes_marks_alone.Goals as goal

pub returns : goal.returns
returns c = record { parts_of_induction = parts_of_induction; induction = induction_whole; parts_of_coinduction = parts_of_coinduction; coinduction = coinduction_whole }
