-- The names that terms are printed with: those of what is declared and of variables as they are, and for a bound
-- name the first that serves, its hint before all.
use Rattle.std.specs.Prelude.{ℕ, zero, suc, ◌+◌, List, [], ◌∷◌, ◌++◌, Bool, Option, Some, None, length, codes, decimal, bytes_eq, if◌then◌else◌}
use Rattle.std.specs.Char.{is_ascii_digit}
use Rattle.std.specs.List.{filter_map, list_any, list_all}
use Rattle.ab_term.specs.Terms.{Head, constant, logical, nominal, variable, index, Term, lam, spine, Terms, no_terms, term}
use Rattle.ab_term.specs.Substitution.{lower_head}

module _ {Var : Type 0} (name : Var → List ℕ) where
  -- the printed name of a head; bound names have those listed, the innermost first. Logical constants have none.
  abbrev pub name_of : List (List ℕ) → Head Var → Option (List ℕ)
  name_of names (constant c) = Some c
  name_of names (logical l) = None
  name_of names (nominal a) = Some (codes "n" ++ decimal a.number)
  name_of names (variable x) = Some (name x.name)
  name_of [] (index i) = None
  name_of (y ∷ names) (index zero) = Some y
  name_of (y ∷ names) (index (suc i)) = name_of names (index i)

module _ {Var Hint : Type 0} where
  -- the heads that stand in a term, but for the names that it binds itself, in order, each as often as it stands there
  abbrev mutual
    pub free_heads : Term Var Hint → List (Head Var)
    free_heads (lam A x t) = filter_map (lower_head 0) (free_heads t)
    free_heads (spine h ts) = h ∷ free_heads_of_all ts

    pub free_heads_of_all : Terms Var Hint → List (Head Var)
    free_heads_of_all no_terms = []
    free_heads_of_all (term t ts) = free_heads t ++ free_heads_of_all ts

-- a name without the digits at its end
abbrev pub stem : List ℕ → List ℕ
stem [] = []
stem (c ∷ cs) = if list_all is_ascii_digit (c ∷ cs) then [] else (c ∷ stem cs)

abbrev pub numbered : List ℕ → ℕ → List ℕ
numbered x n = stem x ++ decimal n

abbrev pub is_in : List (List ℕ) → List ℕ → Bool
is_in used x = list_any (bytes_eq x) used

-- the first number from n on whose test fails, among as many as the first number says
abbrev pub first_from : (ℕ → Bool) → ℕ → ℕ → ℕ
first_from taken zero n = n
first_from taken (suc more) n = if taken n then first_from taken more (n + 1) else n

-- the hint where it isn't used, else its stem and the first number from 1 on that makes a name that isn't used
abbrev pub fresh : List (List ℕ) → List ℕ → List ℕ
fresh used x = if is_in used x then numbered x (first_from (λ n. is_in used (numbered x n)) (length used) 1) else x
