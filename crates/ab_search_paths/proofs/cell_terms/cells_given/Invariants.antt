use Rattle.std.proofs.Common.{◌≡◌, [], length}
use Rattle.std.specs.List.{All}
use Rattle.ab_term.specs.Types.{Ty}
use Rattle.ab_norm.specs.ab_store.specs.Naming.{IsTerm}
use Rattle.ab_norm.specs.NodeGrowth.{AddsTypedTerms}
use Rattle.ab_search_paths.proofs.cell_terms.cells_given.Given as goal

abbrev pub invariant-loop-cell : goal.invariant-loop-cell
invariant-loop-cell l = record {
  typed : All (λ r. (A : Ty) × IsTerm l.types l.store [] r A) l.list.items;
  count : length l.list.items ≡ l.cell-index;
  adds : AddsTypedTerms l.types l.fn.store l.store;
}
