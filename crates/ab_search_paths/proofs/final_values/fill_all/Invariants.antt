use Rattle.std.proofs.Common.{◌≤◌}
use Rattle.std.specs.List.{All}
use Rattle.ab_norm.specs.Nominals.{HoldsNominal}
use Rattle.ab_unify.specs.StoreChanges.{Grows}
use Rattle.ab_search_paths.proofs.final_values.fill_all.Given as goal

abbrev pub invariant-loop-cell : goal.invariant-loop-cell
invariant-loop-cell g l = record {
  grows : Grows l.types l.fn.store l.types l.store;
  held : All (HoldsNominal l.types) l.held.items;
  counted : l.fn.steps ≤ l.steps;
}
