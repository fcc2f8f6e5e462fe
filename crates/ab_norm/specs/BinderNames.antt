-- Binders of several types at once, the first outermost, and their names.
use Rattle.std.specs.Prelude.{ℕ, List, [], ◌∷◌, length}
use Rattle.ab_term.specs.Types.{Ty, kind, arrow}
use Rattle.ab_term.specs.Terms.{Read, lam, index}
use Rattle.ab_term.specs.Expansion.{expansion}

-- the types of the arguments that a type takes
abbrev pub domains : Ty → List Ty
domains (kind k) = []
domains (arrow A B) = A ∷ domains B

-- a term under binders of these types
abbrev pub under : List ℕ → List Ty → Read → Read
under x [] t = t
under x (A ∷ As) t = lam A x (under x As t)

-- their names in eta-long form, as they are called under all of them
abbrev pub names : List ℕ → List Ty → List Read
names x [] = []
names x (A ∷ As) = expansion x A (index (length As)) ∷ names x As
