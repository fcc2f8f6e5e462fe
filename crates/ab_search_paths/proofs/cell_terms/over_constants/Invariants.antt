use Rattle.std.proofs.Common.{◌-◌, [], map, drop, length}
use Rattle.std.specs.List.{All}
use Rattle.ab_term.specs.Types.{Ty}
use Rattle.ab_term.specs.Abstraction.{over}
use Rattle.ab_norm.specs.ab_types.specs.Entries.{Table}
use Rattle.ab_norm.specs.ab_types.specs.Sound.{IsTable}
use Rattle.ab_norm.specs.ab_store.specs.Trees.{Holds}
use Rattle.ab_norm.specs.ab_store.specs.Naming.{IsTypedBy, IsTerm}
use Rattle.ab_norm.specs.NodeGrowth.{AddsTypedTerms}
use Rattle.ab_norm.specs.Nominals.{nominal_of, HoldsNominal}
use Rattle.ab_search_paths.proofs.cell_terms.over_constants.Given as goal

abbrev pub invariant-loop-done : goal.invariant-loop-done
invariant-loop-done l = record {
  held : Holds l.store l.here;
  typed : (types : Table) (A : Ty) → IsTable types → IsTypedBy types l.fn.store → All (HoldsNominal types) l.constants → IsTerm types l.fn.store [] l.fn.term A → IsTerm types l.store [] l.here (over (map (nominal_of types) (drop (length l.constants - l.done) l.constants)) A);
  adds : (types : Table) → IsTypedBy types l.fn.store → All (HoldsNominal types) l.constants → AddsTypedTerms types l.fn.store l.store;
}
