-- Which terms hold nothing but names that are read as they stand: no size mark, which the grammar doesn't have, and no
-- `::` without its operands.
use Rattle.std.specs.Prelude.{◌≡◌, ◌≢◌, ◌⊎◌, ℕ, List, [], ◌∷◌, true, Some, codes}
use Rattle.std.specs.Char.{is_ascii_alphabetic}
use Rattle.ab_term.specs.Logical.{Logical, star, at_sign, plus, hash}
use Rattle.ab_term.specs.Terms.{Head, constant, logical, nominal, variable, index, Term, lam, spine, Terms, no_terms, term}
use Rattle.ab_print.specs.NameAssignment.{alone}
use Rattle.ab_language_laws.specs.Spellings.{IsName}

-- a word of letters and more, not `_` alone, and not reserved
abbrev pub IsHint : List ℕ → Type 0
IsHint [] = ⊥
IsHint (b ∷ x) = (is_ascii_alphabetic b ≡ true) × IsName (b ∷ x)

abbrev pub IsNoMark : Logical → Type 0
IsNoMark (star i) = ⊥
IsNoMark (at_sign i) = ⊥
IsNoMark (plus i) = ⊥
IsNoMark (hash i) = ⊥
IsNoMark _ = Unit {0}

module _ {Var : Type 0} (name : Var → List ℕ) where
  -- `::` is a sign
  abbrev pub IsLegible : Head Var → Type 0
  IsLegible (constant c) = (c ≡ codes "::") ⊎ IsName c
  IsLegible (logical l) = IsNoMark l
  IsLegible (nominal a) = Unit {0}
  IsLegible (variable x) = IsName (name x.name)
  IsLegible (index i) = Unit {0}

  -- as an argument or by itself it isn't printed `::` alone
  abbrev pub IsNoSign : Term Var (List ℕ) → Type 0
  IsNoSign t = alone 0 t ≢ Some (constant (codes "::"))

  abbrev mutual
    pub HasWords : Term Var (List ℕ) → Type 0
    HasWords (lam A x t) = IsHint x × HasWords t
    HasWords (spine h ts) = IsLegible h × HaveWords ts

    pub HaveWords : Terms Var (List ℕ) → Type 0
    HaveWords no_terms = Unit {0}
    HaveWords (term t ts) = IsNoSign t × HasWords t × HaveWords ts

  -- the same of a term that stands by itself
  abbrev pub StandsInWords : Term Var (List ℕ) → Type 0
  StandsInWords t = IsNoSign t × HasWords t
