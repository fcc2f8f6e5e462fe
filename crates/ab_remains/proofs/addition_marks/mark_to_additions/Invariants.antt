use Rattle.ab_logic.specs.declared.additions.Added.{Added}
use Rattle.ab_remains.specs.NamedThings.{HoldsAddition}
use Rattle.ab_remains.proofs.Raising.{IsRaisedSoFar}
use Rattle.ab_remains.proofs.addition_marks.mark_to_additions.Given as goal

abbrev pub invariant-loop-place : goal.invariant-loop-place
invariant-loop-place l = IsRaisedSoFar l.world l.world.additions (λ v (a : Added). HoldsAddition v a.what) l.fn.first l.place l.fn.mark l.raised
