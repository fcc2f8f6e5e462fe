-- Tests of whether two heads are the same, and two terms past their hints. Variables are numbered.
use Rattle.std.specs.Prelude.{ℕ, Bool, true, false, ◌&&◌, ◌==◌, bytes_eq}
use Rattle.ab_term.specs.Types.{same_type}
use Rattle.ab_term.specs.Logical.{Logical}
use Rattle.ab_term.specs.Terms.{Variable, Head, constant, logical, nominal, variable, index, Term, lam, spine, Terms, no_terms, term}
use Rattle.ab_term.specs.Names.{same_nominal}
use Rattle.ab_term.specs.Variables.{same_variable}
use Rattle.ab_term.specs.Codes.{LogicalParts, to_parts}

-- two logical constants are the same where their places in the list of all are, and the types and levels that they hold
abbrev pub same_parts : LogicalParts → LogicalParts → Bool
same_parts p q = (p.0 == q.0) && (same_type p.1.0 q.1.0 && (p.1.1 == q.1.1))

abbrev pub same_logical : Logical → Logical → Bool
same_logical l m = same_parts (to_parts l) (to_parts m)

abbrev pub same_number : ℕ → ℕ → Bool
same_number i j = i == j

abbrev pub same_numbered : Variable ℕ → Variable ℕ → Bool
same_numbered = same_variable same_number

abbrev pub same_head : Head ℕ → Head ℕ → Bool
same_head (constant c) (constant d) = bytes_eq c d
same_head (logical l) (logical m) = same_logical l m
same_head (nominal a) (nominal b) = same_nominal a b
same_head (variable y) (variable z) = same_numbered y z
same_head (index i) (index j) = i == j
same_head _ _ = false

module _ {Hint : Type 0} where
  -- the same past their hints
  abbrev mutual
    pub same_term : Term ℕ Hint → Term ℕ Hint → Bool
    same_term (lam A x t) (lam B y u) = same_type A B && same_term t u
    same_term (lam A x t) (spine h us) = false
    same_term (spine h ts) (lam B y u) = false
    same_term (spine g ts) (spine h us) = same_head g h && same_terms ts us

    pub same_terms : Terms ℕ Hint → Terms ℕ Hint → Bool
    same_terms no_terms no_terms = true
    same_terms no_terms (term u us) = false
    same_terms (term t ts) no_terms = false
    same_terms (term t ts) (term u us) = same_term t u && same_terms ts us
