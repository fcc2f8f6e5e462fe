-- What is known of nominal numbers while terms are looked at. Public contracts don't speak of this.
use Rattle.std.specs.Prelude.{◌≡◌, ◌⊎◌, ◌↔◌, ℕ, List, Bool, true, false, Some, All, Contains}
use Rattle.std.specs.Ordering.{nat_cmp}
use Rattle.std.specs.BTreeMap.{get}
use Rattle.ab_term.specs.Terms.{Nominal}
use Rattle.ab_term.specs.Names.{support}
use Rattle.ab_store.specs.ab_types.specs.Entries.{Table}
use Rattle.ab_store.specs.ab_types.specs.Ids.{HoldsType, type_of}
use Rattle.ab_store.specs.ab_types.specs.declared.ids.TypeId.{TypeId}
use Rattle.ab_store.specs.Trees.{Contents, tree_of}
use Rattle.ab_typing.specs.declared.nominal_types.Numbers.{Numbers}

-- the number has that type
abbrev pub Knows : Table → Numbers → Nominal → Type 0
Knows types known n = (a : TypeId) × (get nat_cmp known.types n.number ≡ Some a) × (type_of types a ≡ n.type)

-- the types are the table's, and of a term that was seen all constants are known
pub record AreKnown (types : Table) (store : Contents) (known : Numbers) : Type 0 where
  pub held : (k : ℕ) (a : TypeId) → get nat_cmp known.types k ≡ Some a → HoldsType types a
  pub seen : All (λ t. All (Knows types known) (support (tree_of types store t))) known.seen.keys

-- no two of them have one number
abbrev pub Agree : (Nominal → Type 0) → Type 0
Agree P = (a b : Nominal) → P a → P b → a.number ≡ b.number → a ≡ b

-- THE CONSTANTS WERE NOTED, and are known with those that were known before; or they can't be, since two have one number
abbrev pub Notes : Table → Contents → Numbers → Numbers → List Nominal → Bool → Type 0
Notes types store old new found true =
    AreKnown types store new × ((n : Nominal) → Knows types new n ↔ (Knows types old n ⊎ Contains found n))
Notes types store old new found false = Agree (λ n. Knows types old n ⊎ Contains found n) → ⊥
