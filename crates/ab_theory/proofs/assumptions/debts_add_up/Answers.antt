use Rattle.ab_theory.proofs.Debts.{owes_none, owes_same, owes_on}
use Rattle.ab_theory.proofs.assumptions.debts_add_up.Goals as goal

pub returns : goal.returns
returns c = record { none = owes_none; same = owes_same; more = owes_on }
