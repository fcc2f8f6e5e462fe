use Rattle.std.proofs.Common.{map}
use Rattle.ab_store.specs.NamedTypes.{type_in_cell}
use Rattle.ab_store.proofs.NamedTypes.{IsLastSoFar}
use Rattle.ab_store.proofs.store.Store.last_in_cells.Given as goal

abbrev pub invariant-loop-place : goal.invariant-loop-place
invariant-loop-place l = IsLastSoFar (map type_in_cell l.self.cells) l.fn.first l.place l.last
