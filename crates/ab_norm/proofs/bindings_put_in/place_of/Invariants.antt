use Rattle.std.proofs.Common.{◌≢◌, take}
use Rattle.std.specs.List.{All}
use Rattle.ab_store.specs.declared.node.Head.TheVariants.{Cell}
use Rattle.ab_norm.proofs.bindings_put_in.place_of.Given as goal

-- none of the cells so far is the head
abbrev pub invariant-loop-i : goal.invariant-loop-i
invariant-loop-i l = All (λ b. l.head ≢ Cell b.cell) (take l.i l.store.bindings)
