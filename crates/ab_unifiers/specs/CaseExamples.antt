-- Definitions to try case analysis on, as one writes them.
use Rattle.std.specs.Prelude.{ℕ, List, [], ◌∷◌, codes}
use Rattle.ab_term.specs.Types.{Ty, kind, arrow, o, olist}
use Rattle.ab_term.specs.Logical.{truth}
use Rattle.ab_term.specs.Terms.{Nominal, Variable, constant, logical, nominal, variable, index, Term, lam, spine, no_terms, terms_of}
use Rattle.ab_unifiers.specs.Replacements.{Cell}
use Rattle.ab_unifiers.specs.Unification.{Equation}
use Rattle.ab_unifiers.specs.Clauses.{Clause}
use Rattle.ab_unifiers.specs.Alternatives.{Scope, Alternative}

abbrev pub Written : Type 0
Written = Term ℕ (List ℕ)

abbrev pub i : Ty
i = kind (codes "i")

abbrev pub is_of : List ℕ → Ty → Cell (List ℕ)
is_of b A = record { hint = b; type = A }

abbrev pub n : ℕ → Nominal
n k = record { number = k; type = i }

abbrev pub the : ℕ → Written
the k = spine (nominal (n k)) no_terms

abbrev pub cell : ℕ → Ty → Variable ℕ
cell k A = record { name = k; type = A }

abbrev pub at : Variable ℕ → List Written → Written
at y ts = spine (variable y) (terms_of ts)

abbrev pub known : List ℕ → List Written → Written
known b ts = spine (constant b) (terms_of ts)

abbrev pub bound : ℕ → Written
bound k = spine (index k) no_terms

-- \x\ ..
abbrev pub under : Ty → Written → Written
under A t = lam A (codes "x") t

abbrev pub true_term : Written
true_term = spine (logical truth) no_terms

abbrev pub equal : ℕ → Written → Written → Equation (List ℕ)
equal p t u = record { place = p; left = t; right = u }

-- `nabla x y, dis x y`
abbrev pub dis : Clause (List ℕ)
dis = record { variables = []; names = is_of (codes "x") i ∷ is_of (codes "y") i ∷ []; predicate = codes "dis"; arguments = terms_of (at (cell 0 i) [] ∷ at (cell 1 i) [] ∷ []); body = true_term }

-- `nabla x, name x`
abbrev pub name : Clause (List ℕ)
name = record { variables = []; names = is_of (codes "x") i ∷ []; predicate = codes "name"; arguments = terms_of (at (cell 0 i) [] ∷ []); body = true_term }

-- `nat z` and `nat (s N) := nat N`
abbrev pub nat : List (Clause (List ℕ))
nat =
    record { variables = []; names = []; predicate = codes "nat"; arguments = terms_of (known (codes "z") [] ∷ []); body = true_term } ∷
    record { variables = is_of (codes "N") i ∷ []; names = []; predicate = codes "nat"; arguments = terms_of (known (codes "s") (at (cell 0 i) [] ∷ []) ∷ []); body = known (codes "nat") (at (cell 0 i) [] ∷ []) } ∷ []

-- `nabla x, ctx (of x T :: L) := ctx L`, written with two constants
abbrev pub ctx : Clause (List ℕ)
ctx = record { variables = is_of (codes "T") i ∷ is_of (codes "L") i ∷ []; names = is_of (codes "x") i ∷ []; predicate = codes "ctx"; arguments = terms_of (known (codes "c") (known (codes "of") (at (cell 2 i) [] ∷ at (cell 0 i) [] ∷ []) ∷ at (cell 1 i) [] ∷ []) ∷ []); body = known (codes "ctx") (at (cell 1 i) [] ∷ []) }

-- `plus z N N` and `plus (s M) N (s K) := plus M N K`
abbrev pub plus : List (Clause (List ℕ))
plus =
    record { variables = is_of (codes "N") i ∷ []; names = []; predicate = codes "plus"; arguments = terms_of (known (codes "z") [] ∷ at (cell 0 i) [] ∷ at (cell 0 i) [] ∷ []); body = true_term } ∷
    record { variables = is_of (codes "M") i ∷ is_of (codes "N") i ∷ is_of (codes "K") i ∷ []; names = []; predicate = codes "plus"; arguments = terms_of (known (codes "s") (at (cell 0 i) [] ∷ []) ∷ at (cell 1 i) [] ∷ known (codes "s") (at (cell 2 i) [] ∷ []) ∷ []); body = known (codes "plus") (at (cell 0 i) [] ∷ at (cell 1 i) [] ∷ at (cell 2 i) [] ∷ []) } ∷ []

-- what an alternative asks, and its body
abbrev pub asked : Alternative (List ℕ) → List (Equation (List ℕ)) × Written
asked a = (a.equations, a.body)

-- X and Y, which take a constant; and n1
abbrev pub two : Scope (List ℕ)
two = record { cells = is_of (codes "X") (arrow i i) ∷ is_of (codes "Y") (arrow i i) ∷ []; variables = cell 0 (arrow i i) ∷ cell 1 (arrow i i) ∷ []; constants = n 1 ∷ [] }

-- N alone
abbrev pub one : Scope (List ℕ)
one = record { cells = is_of (codes "N") i ∷ []; variables = cell 0 i ∷ []; constants = [] }

-- F and L, for `member F L`
abbrev pub formula_and_list : Scope (List ℕ)
formula_and_list = record { cells = is_of (codes "F") o ∷ is_of (codes "L") olist ∷ []; variables = cell 0 o ∷ cell 1 olist ∷ []; constants = [] }

-- eight cells, of which number 7 is T and number 4 is L
abbrev pub kept_cells : List (Cell (List ℕ))
kept_cells =
    let other = is_of (codes "Z") i in
    other ∷ other ∷ other ∷ other ∷ is_of (codes "L") i ∷ other ∷ other ∷ is_of (codes "T") i ∷ []
