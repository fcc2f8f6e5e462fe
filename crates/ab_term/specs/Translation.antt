-- Other variables and other hints in the place of a tree's own. Hints are for printing alone: two terms are the
-- same where they are equal once their hints are forgotten.
use Rattle.std.specs.Prelude.{◌≡◌}
use Rattle.ab_term.specs.Terms.{Variable, Head, constant, logical, nominal, variable, index, Term, lam, spine, Terms, no_terms, term}

module _ {Var New : Type 0} where
  abbrev pub translate_variable : (Var → New) → Variable Var → Variable New
  translate_variable f x = record { name = f x.name; type = x.type }

  abbrev pub translate_head : (Var → New) → Head Var → Head New
  translate_head f (constant c) = constant c
  translate_head f (logical l) = logical l
  translate_head f (nominal a) = nominal a
  translate_head f (variable x) = variable (translate_variable f x)
  translate_head f (index i) = index i

module _ {Var Hint New NewHint : Type 0} where
  abbrev mutual
    pub translate : (Var → New) → (Hint → NewHint) → Term Var Hint → Term New NewHint
    translate f g (lam A x t) = lam A (g x) (translate f g t)
    translate f g (spine h ts) = spine (translate_head f h) (translate_all f g ts)

    pub translate_all : (Var → New) → (Hint → NewHint) → Terms Var Hint → Terms New NewHint
    translate_all f g no_terms = no_terms
    translate_all f g (term t ts) = term (translate f g t) (translate_all f g ts)

module _ {Var Hint : Type 0} where
  -- without hints
  abbrev pub forget : Term Var Hint → Term Var (Unit {0})
  forget = translate (λ v. v) (λ x. tt)

  abbrev pub forget_all : Terms Var Hint → Terms Var (Unit {0})
  forget_all = translate_all (λ v. v) (λ x. tt)

  abbrev pub EqualPastHints : Term Var Hint → Term Var Hint → Type 0
  EqualPastHints t u = forget t ≡ forget u
