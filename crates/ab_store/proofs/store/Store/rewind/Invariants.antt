use Rattle.ab_store.proofs.Marking.{IsRewound}
use Rattle.std.proofs.Common.{length}
use Rattle.ab_store.proofs.store.Store.rewind.Given as goal

abbrev pub invariant-loop-self : goal.invariant-loop-self
invariant-loop-self g l = IsRewound l.mark.bindings l.initial.self l.initial.steps l.self l.steps

abbrev pub decreases-loop-self : goal.decreases-loop-self
decreases-loop-self g l = length l.self.bindings
