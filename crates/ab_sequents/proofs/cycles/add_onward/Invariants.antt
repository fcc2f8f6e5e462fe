use Rattle.std.proofs.Common.{◌≡◌, ◌++◌, drop}
use Rattle.ab_norm.specs.ab_types.specs.Entries.{Table}
use Rattle.ab_norm.specs.ab_types.specs.Ids.{HoldsType, type_of}
use Rattle.ab_norm.specs.Nominals.{pairs_of, HoldsPairs}
use Rattle.ab_formulas.specs.Cycles.{onward}
use Rattle.ab_sequents.proofs.cycles.add_onward.Given as goal

abbrev pub invariant-loop-to : goal.invariant-loop-to
invariant-loop-to l = record {
  pairs : (types : Table) → pairs_of types l.swaps.items ++ onward (type_of types l.ty) l.first l.from (drop l.to-index l.rest)
      ≡ pairs_of types l.fn.swaps.items ++ onward (type_of types l.ty) l.first l.first l.rest;
  held : (types : Table) → HoldsType types l.ty → HoldsPairs types l.fn.swaps.items → HoldsPairs types l.swaps.items;
}
