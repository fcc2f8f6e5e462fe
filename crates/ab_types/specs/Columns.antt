-- What putting an entry into one of a table's lists, and its word into the order, leaves. Contracts of the table
-- don't speak of this.
use Rattle.std.specs.Prelude.{◌≡◌, List, [], ◌∷◌, ◌++◌, Contains, ◌⊎◌}
use Rattle.ab_types.specs.declared.columns.Sort.{Sort}

module _ {X : Type 0} where
  abbrev pub AreAsBefore : List X → List Sort → List X → List Sort → Type 0
  AreAsBefore xs ss xs2 ss2 = (xs2 ≡ xs) × (ss2 ≡ ss)

  abbrev pub AreWith : X → Sort → List X → List Sort → List X → List Sort → Type 0
  AreWith x s xs ss xs2 ss2 = (xs2 ≡ xs ++ x ∷ []) × (ss2 ≡ ss ++ s ∷ [])

  abbrev pub PutsOnce : X → Sort → List X → List Sort → List X → List Sort → Type 0
  PutsOnce x s xs ss xs2 ss2 =
      (Contains xs x × AreAsBefore xs ss xs2 ss2) ⊎ ((¬ Contains xs x) × AreWith x s xs ss xs2 ss2)
