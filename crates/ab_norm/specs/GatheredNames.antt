-- What a set of nominal constants gains while terms are walked through.
use Rattle.std.specs.Prelude.{◌≡◌, ◌⊎◌, ◌↔◌, List, map, true, Contains}
use Rattle.ab_term.specs.Terms as tree
use Rattle.ab_term.specs.Names.{support}
use Rattle.ab_store.specs.ab_types.specs.Entries.{Table}
use Rattle.ab_store.specs.declared.node.TermId.{TermId}
use Rattle.ab_store.specs.Trees.{Contents, tree_of}
use Rattle.ab_norm.specs.declared.memo.Seen.{Seen}
use Rattle.ab_norm.specs.WalkMemory.{has_been}
use Rattle.ab_norm.specs.declared.nominal.Nominal.{Nominal}
use Rattle.ab_norm.specs.Nominals.{nominal_of}

-- the second stand for those that the first stand for, and for those that are found, and for no other
abbrev pub Gathers : Table → List Nominal → List Nominal → List tree.Nominal → Type 0
Gathers types old new found =
    (n : tree.Nominal) → Contains (map (nominal_of types) new) n ↔ (Contains (map (nominal_of types) old) n ⊎ Contains found n)

-- of each term that is kept all constants are in the set
abbrev pub AllFound : Contents → List Nominal → Seen → Type 0
AllFound store found seen = (types : Table) (t : TermId) → has_been seen t ≡ true →
    (n : tree.Nominal) → Contains (support (tree_of types store t)) n → Contains (map (nominal_of types) found) n
