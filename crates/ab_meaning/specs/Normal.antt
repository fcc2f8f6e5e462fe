-- The normal form of a typed term that may hold redexes: eta-long, with the hints as they were written. A head keeps its
-- arguments and is given the bound names that it lacks; a redex is reduced by hereditary substitution.
use Rattle.std.specs.Prelude.{ℕ, List, ◌∷◌, Option, Some, None, codes}
use Rattle.ab_term.specs.Types.{Ty, kind, arrow}
use Rattle.ab_term.specs.Terms.{Head, Term, lam, spine, Terms, no_terms, term}
use Rattle.ab_term.specs.Typing.{Signature, head_type}
use Rattle.ab_term.specs.Substitution.{instance}
use Rattle.ab_term.specs.Expansion.{expansion_of}
use Rattle.ab_term.specs.Beta.{Plain, atom, abstraction, application}

module _ {Var : Type 0} where
  -- what is left of a type when arguments are given
  abbrev pub left_type : Ty → Terms Var (List ℕ) → Ty
  left_type A no_terms = A
  left_type (kind k) (term t ts) = kind k
  left_type (arrow A B) (term t ts) = left_type B ts

  -- a term that is given arguments
  abbrev pub given_all : Term Var (List ℕ) → Terms Var (List ℕ) → Term Var (List ℕ)
  given_all t no_terms = t
  given_all t (term u us) = given_all (instance t u) us

  -- a head with arguments, eta-long
  abbrev pub long_form : Option Ty → Head Var → Terms Var (List ℕ) → Term Var (List ℕ)
  long_form None h ts = spine h ts
  long_form (Some A) h ts = expansion_of (codes "x") (left_type A ts) h ts

  module _ (sg : Signature) where
    -- the normal form of a term that is given arguments, under bound names of the listed types
    abbrev pub normal_given : List Ty → Plain Var (List ℕ) → Terms Var (List ℕ) → Term Var (List ℕ)
    normal_given G (atom h) ts = long_form (head_type sg G h) h ts
    normal_given G (abstraction A x t) ts = given_all (lam A x (normal_given (A ∷ G) t no_terms)) ts
    normal_given G (application t u) ts = normal_given G t (term (normal_given G u no_terms) ts)

    abbrev pub normal_form : List Ty → Plain Var (List ℕ) → Term Var (List ℕ)
    normal_form G t = normal_given G t no_terms
