use Rattle.ab_store.proofs.Wholes.{IsRaised}
use Rattle.ab_store.proofs.store.Store.mark_whole.Given as goal

abbrev pub invariant-loop-place : goal.invariant-loop-place
invariant-loop-place l = IsRaised l.self l.fn.first l.fn.second l.mark l.place
