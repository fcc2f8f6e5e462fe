use Rattle.ab_theory.proofs.Debts.{taken_declared}
use Rattle.ab_theory.proofs.assumptions.theorems_taken_are_declared.Goals as goal

pub returns : goal.returns
returns c D d n valid taken = taken_declared D n d valid taken
