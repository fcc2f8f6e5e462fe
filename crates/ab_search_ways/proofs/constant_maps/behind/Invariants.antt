use Rattle.std.proofs.Common.{◌≡◌, length}
use Rattle.std.specs.List.{All}
use Rattle.ab_norm.specs.ab_types.specs.Entries.{Table}
use Rattle.ab_norm.specs.ab_types.specs.Sound.{IsTable}
use Rattle.ab_norm.specs.Nominals.{nominal_of, HoldsNominal}
use Rattle.ab_instances.specs.ListReadings.{names_read}
use Rattle.ab_search_ways.specs.MapSteps as steps
use Rattle.ab_search_ways.proofs.constant_maps.behind.Given as goal

abbrev pub invariant-loop-left : goal.invariant-loop-left
invariant-loop-left l = record {
  list : (types : Table) → IsTable types → All (HoldsNominal types) l.names → HoldsNominal types l.a →
      steps.behind (nominal_of types l.a) (names_read types l.left) ≡ steps.behind (nominal_of types l.a) (names_read types l.names);
  held : (types : Table) → All (HoldsNominal types) l.names → All (HoldsNominal types) l.left;
}

abbrev pub decreases-loop-left : goal.decreases-loop-left
decreases-loop-left l = length l.left
