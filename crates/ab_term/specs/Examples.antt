-- A few terms over one kind, for worked instances of the definitions. Variables are numbers, hints are names.
use Rattle.std.specs.Prelude.{ℕ, List, codes, bytes_eq, if◌then◌else◌, Some, None}
use Rattle.ab_term.specs.Types.{Ty, kind, arrow}
use Rattle.ab_term.specs.Terms.{Nominal, constant, index, Term, spine, no_terms, term}
use Rattle.ab_term.specs.Typing.{Signature}

abbrev pub i : Ty
i = kind (codes "i")

abbrev pub Written : Type 0
Written = Term ℕ (List ℕ)

-- the bound name that many binders out, alone and given one argument
abbrev pub name : ℕ → Written
name n = spine (index n) no_terms

abbrev pub name_of : ℕ → Written → Written
name_of n t = spine (index n) (term t no_terms)

-- a constant, alone and given one argument
abbrev pub known : List ℕ → Written
known b = spine (constant b) no_terms

abbrev pub known_of : List ℕ → Written → Written
known_of b t = spine (constant b) (term t no_terms)

-- n1 of the type
abbrev pub constant_of : Ty → Nominal
constant_of A = record { number = 1; type = A }

-- one constant, of type i -> i
abbrev pub only_s : Signature
only_s c = if bytes_eq c (codes "s") then Some (arrow i i) else None
