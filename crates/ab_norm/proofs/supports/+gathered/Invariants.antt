use Rattle.std.proofs.Common.{◌+◌, ◌*◌, map, take}
use Rattle.std.specs.List.{All}
use Rattle.ab_term.specs.Names.{support_of_all}
use Rattle.ab_term.specs.Terms.{terms_of}
use Rattle.ab_store.specs.ab_types.specs.Entries.{Table}
use Rattle.ab_store.specs.Trees.{tree_of}
use Rattle.ab_store.specs.Naming.{IsTypedBy}
use Rattle.ab_norm.specs.Nominals.{HoldsNominal}
use Rattle.ab_norm.specs.GatheredNames.{Gathers, AllFound}
use Rattle.ab_norm.proofs.Bounds.{ids_bound}
use Rattle.ab_norm.proofs.supports.+gathered.Given as goal

abbrev pub decreases-gather : goal.decreases-gather
decreases-gather l = 3 * l.id.0 + 2

abbrev pub decreases-gather_node : goal.decreases-gather_node
decreases-gather_node l = 3 * l.id.0 + 1

abbrev pub decreases-gather_all : goal.decreases-gather_all
decreases-gather_all l = 3 * ids_bound l.ids.now

abbrev pub invariant-gather_all-loop-id : goal.invariant-gather_all-loop-id
invariant-gather_all-loop-id l = record {
  gathers : (types : Table) → Gathers types l.initial.found.keys l.found.keys (support_of_all (terms_of (map (tree_of types l.store) (take l.id-index l.ids))));
  held : (types : Table) → IsTypedBy types l.store → All (HoldsNominal types) l.initial.found.keys → All (HoldsNominal types) l.found.keys;
  seen : AllFound l.store l.found.keys l.seen;
}
