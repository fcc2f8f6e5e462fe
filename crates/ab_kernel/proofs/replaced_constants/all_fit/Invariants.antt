use Rattle.ab_kernel.proofs.Replacing.{FitSoFar}
use Rattle.ab_kernel.proofs.replaced_constants.all_fit.Given as goal

abbrev pub invariant-loop-replace : goal.invariant-loop-replace
invariant-loop-replace l = FitSoFar l.world l.sequent l.replaces l.replace-index l.before.items
