-- What is known of terms that were looked at. Public contracts don't speak of this.
use Rattle.std.specs.Prelude.{◌≡◌, ℕ, List, find, bytes_eq, Option, None, All}
use Rattle.std.specs.List.{list_any}
use Rattle.ab_store.specs.ab_types.specs.Entries.{Table}
use Rattle.ab_store.specs.Trees.{Contents, tree_of}
use Rattle.ab_store.specs.declared.node.TermId.{TermId}
use Rattle.ab_formulas.specs.Stratification.{Part, everywhere, left_of_arrows, constants}
use Rattle.ab_formulas.specs.Heads.{Place, in_the_atom, under_a_variable, KeepsNames}
use Rattle.ab_typing.specs.declared.judged_terms.Spot.{Spot}
use Rattle.ab_typing.specs.declared.judged_terms.Cleared.{Cleared}
use Rattle.ab_typing.specs.declared.judged_terms.Spots.{Spots}

-- the first of the names that is one of the predicates
abbrev pub first_of : List (List ℕ) → List (List ℕ) → Option (List ℕ)
first_of ps names = find (λ c. list_any (bytes_eq c) ps) names

abbrev pub IsClear : List (List ℕ) → Part → Table → Contents → TermId → Type 0
IsClear ps p types store t = first_of ps (constants p (tree_of types store t)) ≡ None

-- in these no predicate stands
pub record AreClear (ps : List (List ℕ)) (types : Table) (store : Contents) (cleared : Cleared) : Type 0 where
  pub everywhere : All (IsClear ps everywhere types store) cleared.everywhere.keys
  pub left : All (IsClear ps left_of_arrows types store) cleared.left.keys

abbrev pub IsKeeping : Place → Table → Contents → Spot → Type 0
IsKeeping p types store s = KeepsNames p s.inner (tree_of types store s.id)

-- these keep names
pub record AreKeeping (store : Contents) (spots : Spots) : Type 0 where
  pub in_atom : (types : Table) → All (IsKeeping in_the_atom types store) spots.in_atom.keys
  pub under : (types : Table) → All (IsKeeping under_a_variable types store) spots.under.keys
