-- The definition that is built in: `member A (A :: L)`, and `member A (B :: L) := member A L`.
use Rattle.std.specs.Prelude.{◌≡◌, ℕ, List, [], ◌∷◌, codes, Some}
use Rattle.ab_term.specs.Types.{Ty, arrows, prop, o, olist}
use Rattle.ab_term.specs.Logical.{truth}
use Rattle.ab_term.specs.Terms.{constant, logical, variable, Term, spine, Terms, no_terms, terms_of}
use Rattle.ab_term.specs.Typing.{Signature}
use Rattle.ab_unifiers.specs.Replacements.{Cell}
use Rattle.ab_unifiers.specs.Clauses.{Clause}

abbrev pub Bytes : Type 0
Bytes = List ℕ

-- the clause's variable of that number, of this type
abbrev pub clause_variable : ℕ → Ty → Term ℕ Bytes
clause_variable n A = spine (variable (record { name = n; type = A })) no_terms

abbrev pub is_called : Bytes → Ty → Cell Bytes
is_called b A = record { hint = b; type = A }

-- F :: L
abbrev pub before : Term ℕ Bytes → Term ℕ Bytes → Term ℕ Bytes
before F L = spine (constant (codes "::")) (terms_of (F ∷ L ∷ []))

-- the arguments of `member A (F :: L)` and of `member A L`
abbrev pub in_the_list : Term ℕ Bytes → Term ℕ Bytes → Terms ℕ Bytes
in_the_list A L = terms_of (A ∷ L ∷ [])

-- its first variable is A, its second L
abbrev pub member_first : Clause Bytes
member_first = record {
  variables = is_called (codes "A") o ∷ is_called (codes "L") olist ∷ [];
  names = [];
  predicate = codes "member";
  arguments = in_the_list (clause_variable 0 o) (before (clause_variable 0 o) (clause_variable 1 olist));
  body = spine (logical truth) no_terms;
}

-- its variables are A, B and L
abbrev pub member_later : Clause Bytes
member_later = record {
  variables = is_called (codes "A") o ∷ is_called (codes "B") o ∷ is_called (codes "L") olist ∷ [];
  names = [];
  predicate = codes "member";
  arguments = in_the_list (clause_variable 0 o) (before (clause_variable 1 o) (clause_variable 2 olist));
  body = spine (constant (codes "member")) (in_the_list (clause_variable 0 o) (clause_variable 2 olist));
}

abbrev pub member_clauses : List (Clause Bytes)
member_clauses = member_first ∷ member_later ∷ []

-- the constants that it speaks of have their types
pub record HasMember (sg : Signature) : Type 0 where
  pub member : sg (codes "member") ≡ Some (arrows (o ∷ olist ∷ []) prop)
  pub cons : sg (codes "::") ≡ Some (arrows (o ∷ olist ∷ []) olist)
