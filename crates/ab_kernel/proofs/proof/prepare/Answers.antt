use Rattle.ab_kernel.specs.Debts.{owed}
use Rattle.ab_kernel.proofs.Standing.{some_world}
use Rattle.ab_kernel.proofs.proof.prepare.Goals as goal

pub returns-in-Err-clause-forgotten : goal.returns-in-Err-clause-forgotten
returns-in-Err-clause-forgotten c = c.forget_debt.ensures some_world (owed c.args.debts.now.items) (c.in_ok-note_debt.ensures.noted some_world)
