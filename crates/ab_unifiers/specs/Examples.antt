-- Problems to try the rules on, as one writes them.
use Rattle.std.specs.Prelude.{ℕ, List, [], ◌∷◌, codes}
use Rattle.ab_term.specs.Types.{Ty, kind}
use Rattle.ab_term.specs.Terms.{Variable, constant, nominal, variable, index, Term, lam, spine, no_terms, terms_of}
use Rattle.ab_unifiers.specs.Replacements.{Cell}
use Rattle.ab_unifiers.specs.Unification.{State}

abbrev pub Bytes : Type 0
Bytes = List ℕ

abbrev pub i : Ty
i = kind (codes "i")

abbrev pub cell : ℕ → Ty → Variable ℕ
cell n A = record { name = n; type = A }

abbrev pub n1 : Term ℕ Bytes
n1 = spine (nominal (record { number = 1; type = i })) no_terms

abbrev pub n2 : Term ℕ Bytes
n2 = spine (nominal (record { number = 2; type = i })) no_terms

abbrev pub n3 : Term ℕ Bytes
n3 = spine (nominal (record { number = 3; type = i })) no_terms

abbrev pub name : ℕ → Term ℕ Bytes
name k = spine (index k) no_terms

abbrev pub known : List (Term ℕ Bytes) → Term ℕ Bytes
known ts = spine (constant (codes "c")) (terms_of ts)

abbrev pub at : Variable ℕ → List (Term ℕ Bytes) → Term ℕ Bytes
at y ts = spine (variable y) (terms_of ts)

-- \x\ ..
abbrev pub over : Term ℕ Bytes → Term ℕ Bytes
over t = lam i (codes "x") t

-- X of the first type, and Y of the second
abbrev pub two_cells : Ty → Ty → List (Cell Bytes)
two_cells A B = record { hint = codes "X"; type = A } ∷ record { hint = codes "Y"; type = B } ∷ []

-- one equation, with these cells, of which these are flexible
abbrev pub problem : List (Cell Bytes) → List (Variable ℕ) → Term ℕ Bytes → Term ℕ Bytes → State Bytes
problem cells ys t u = record { equations = record { place = 0; left = t; right = u } ∷ []; cells = cells; flexible = ys; pairs = [] }
