use Rattle.std.proofs.Common.{◌≡◌, ◌+◌, ◌*◌, map, take}
use Rattle.ab_store.specs.ab_types.specs.Entries.{Table}
use Rattle.ab_store.specs.ab_types.specs.Sound.{IsTable}
use Rattle.ab_store.specs.Naming.{IsTypedBy}
use Rattle.ab_norm.specs.NameMatches.{AllAgree}
use Rattle.ab_norm.proofs.Bounds.{ids_bound}
use Rattle.ab_norm.proofs.Compared.{bare}
use Rattle.ab_norm.proofs.equality.+compared.Given as goal

abbrev pub decreases-is_equal : goal.decreases-is_equal
decreases-is_equal l = 3 * l.a.0 + 2

abbrev pub decreases-compare : goal.decreases-compare
decreases-compare l = 3 * l.a.0 + 1

abbrev pub decreases-are_equal : goal.decreases-are_equal
decreases-are_equal l = 3 * ids_bound l.these.now

abbrev pub invariant-are_equal-loop-i : goal.invariant-are_equal-loop-i
invariant-are_equal-loop-i l = record {
  agreed : AllAgree l.store l.agreed;
  same : (types : Table) → IsTable types → IsTypedBy types l.store → map (bare types l.store) (take l.i l.these) ≡ map (bare types l.store) (take l.i l.those);
}
