use Rattle.std.proofs.Common.{map, take}
use Rattle.ab_term.specs.Terms.{terms_of}
use Rattle.ab_types.specs.Entries.{Table}
use Rattle.ab_store.specs.Trees.{tree_of}
use Rattle.ab_store.specs.Layout.{HoldOfAll}
use Rattle.ab_store.proofs.store.Store.facts_of_all.Given as goal

abbrev pub invariant-loop-id : goal.invariant-loop-id
invariant-loop-id l = (types : Table) → HoldOfAll l.facts (terms_of (map (tree_of types l.self) (take l.id-index l.ids)))
