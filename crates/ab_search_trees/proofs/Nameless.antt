-- A term without free names holds no nominal constant.
use Rattle.std.proofs.Common.{◌≡◌, ℕ, List, [], ◌++◌, refl, sym, ◌∙◌, ap, true, false}
use Rattle.std.proofs.lemmas.Bool.{false≢true}
use Rattle.ab_term.specs.Terms.{Nominal, Head, constant, logical, nominal, variable, index, Term, lam, spine, Terms, no_terms, term}
use Rattle.ab_term.specs.Names.{support_of_head, support, support_of_all}
use Rattle.ab_term.specs.Abstraction.{among, under, may_stand, Only, OnlyAll}
use Rattle.ab_term.proofs.Only.{among-under}

-- no nominal constant is among the names
abbrev NoNominal : List (Head ℕ) → Type 0
NoNominal ns = (a : Nominal) → among ns (nominal a) ≡ false

none_under : (ns : List (Head ℕ)) → NoNominal ns → NoNominal (under ns)
none_under ns n a = among-under ns (nominal a) ∙ n a

head_support : (ns : List (Head ℕ)) (h : Head ℕ) → NoNominal ns → may_stand ns h ≡ true → support_of_head h ≡ []
head_support ns (constant c) n e = refl
head_support ns (logical l) n e = refl
head_support ns (nominal a) n e = absurd (false≢true (sym (n a) ∙ e))
head_support ns (variable y) n e = refl
head_support ns (index i) n e = refl

module _ {Hint : Type 0} where
  mutual
    only_support : (ns : List (Head ℕ)) → NoNominal ns → (t : Term ℕ Hint) → Only ns t → support t ≡ []
    only_support ns n (lam A x t) o = only_support (under ns) (none_under ns n) t o
    only_support ns n (spine h ts) o = ap (λ l. l ++ support_of_all ts) (head_support ns h n o.0) ∙ only_support_of_all ns n ts o.1

    only_support_of_all : (ns : List (Head ℕ)) → NoNominal ns → (ts : Terms ℕ Hint) → OnlyAll ns ts → support_of_all ts ≡ []
    only_support_of_all ns n no_terms o = refl
    only_support_of_all ns n (term t ts) o = ap (λ l. l ++ support_of_all ts) (only_support ns n t o.0) ∙ only_support_of_all ns n ts o.1

  pub nameless_support : (t : Term ℕ Hint) → Only [] t → support t ≡ []
  nameless_support t o = only_support [] (λ a. refl) t o
