use Rattle.std.specs.List.{All}
use Rattle.ab_norm.specs.ab_types.specs.Entries.{Table}
use Rattle.ab_norm.specs.Nominals.{HoldsNominal}
use Rattle.ab_search.proofs.quantifier_steps.reorder_constants.Given as goal

abbrev pub invariant-loop-b : goal.invariant-loop-b
invariant-loop-b l = record {
  held : (types : Table) → All (HoldsNominal types) l.constants → All (HoldsNominal types) l.list.items;
}

abbrev pub invariant-loop-a : goal.invariant-loop-a
invariant-loop-a l = record {
  held : (types : Table) → All (HoldsNominal types) l.constants → All (HoldsNominal types) l.list.items;
}
