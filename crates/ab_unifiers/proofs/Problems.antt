-- A problem as it is given, and its answer.
use Rattle.std.proofs.Common.{◌≡◌, ℕ, List, [], ◌∷◌, ◌++◌, Some, refl, sym, ◌∙◌, ap, true, false}
use Rattle.std.proofs.lemmas.Bool.{false≢true}
use Rattle.ab_term.specs.Types.{Ty}
use Rattle.ab_term.specs.Terms.{Nominal, Variable, Head, constant, logical, nominal, variable, index, Term, lam, spine, Terms, no_terms, term}
use Rattle.ab_term.specs.Typing.{Signature, HasType}
use Rattle.ab_term.specs.Names.{support_of_head, support, support_of_all}
use Rattle.ab_term.specs.Translation.{forget}
use Rattle.ab_term.specs.Variables.{Substitution, value_in, image, IsTyped}
use Rattle.ab_term.specs.Sameness.{same_number}
use Rattle.ab_term.specs.Abstraction.{among, under, may_stand, Only, OnlyAll}
use Rattle.ab_term.proofs.Only.{among-under}
use Rattle.ab_unifiers.specs.Replacements.{Cell}
use Rattle.ab_unifiers.specs.Unification.{Equation, State, unified, goes_on, next, Solves}
use Rattle.ab_unifiers.specs.Unifiers.{AreTyped, AreKnown, IsTypedState, Unifies, given}
use Rattle.ab_unifiers.proofs.Pruning.{none_safe}
use Rattle.ab_unifiers.proofs.Ruling.{image_none}
use Rattle.ab_unifiers.proofs.Sound.{IsProblem, step_leads, sound}

-- no nominal constant is among the names
abbrev NoNominal : List (Head ℕ) → Type 0
NoNominal ns = (a : Nominal) → among ns (nominal a) ≡ false

none_under : (ns : List (Head ℕ)) → NoNominal ns → NoNominal (under ns)
none_under ns n a = among-under ns (nominal a) ∙ n a

head_support : (ns : List (Head ℕ)) (h : Head ℕ) → NoNominal ns → may_stand ns h ≡ true → support_of_head h ≡ []
head_support ns (constant c) n e = refl
head_support ns (logical l) n e = refl
head_support ns (nominal a) n e = absurd (false≢true (sym (n a) ∙ e))
head_support ns (variable y) n e = refl
head_support ns (index i) n e = refl

module _ {Hint : Type 0} where
  mutual
    only_support : (ns : List (Head ℕ)) → NoNominal ns → (t : Term ℕ Hint) → Only ns t → support t ≡ []
    only_support ns n (lam A x t) o = only_support (under ns) (none_under ns n) t o
    only_support ns n (spine h ts) o = ap (λ l. l ++ support_of_all ts) (head_support ns h n o.0) ∙ only_support_of_all ns n ts o.1

    only_support_of_all : (ns : List (Head ℕ)) → NoNominal ns → (ts : Terms ℕ Hint) → OnlyAll ns ts → support_of_all ts ≡ []
    only_support_of_all ns n no_terms o = refl
    only_support_of_all ns n (term t ts) o = ap (λ l. l ++ support_of_all ts) (only_support ns n t o.0) ∙ only_support_of_all ns n ts o.1

module _ (sg : Signature) {Hint : Type 0} (x : Hint) (es : List (Equation Hint)) (cells : List (Cell Hint)) (ys : List (Variable ℕ)) (typed : AreTyped sg es) (known : AreKnown cells ys) where
  pub problem : IsProblem sg x (given es cells ys)
  problem = record { equations = typed; known = known; safe = none_safe sg }

  unifies_alike : (r q : Substitution ℕ Hint) → ((G : List Ty) (t : Term ℕ Hint) (A : Ty) → HasType sg G t A → image same_number r t ≡ image same_number q (image same_number [] t)) → (fs : List (Equation Hint)) → AreTyped sg fs → Unifies q fs → Unifies r fs
  unifies_alike r q a [] t u = tt
  unifies_alike r q a (f ∷ fs) t u = (
    ap forget (a t.0.0 f.left t.0.1 t.0.2 ∙ ap (image same_number q) (image_none f.left)) ∙ u.0 ∙ sym (ap forget (a t.0.0 f.right t.0.1 t.0.3 ∙ ap (image same_number q) (image_none f.right))),
    unifies_alike r q a fs t.1 u.1,
  )

  pub answer_unifies : (more : List (Cell Hint)) (r : Substitution ℕ Hint) → Solves x (given es cells ys) (unified more r) → Unifies r es
  answer_unifies more r p = let s = sound sg x (given es cells ys) (unified more r) problem p in unifies_alike r s.1 s.4 es typed s.3

  pub answer_typed : (more : List (Cell Hint)) (r : Substitution ℕ Hint) → Solves x (given es cells ys) (unified more r) → IsTyped sg r
  answer_typed more r p = (sound sg x (given es cells ys) (unified more r) problem p).0.typed

  pub answer_clean : (more : List (Cell Hint)) (r : Substitution ℕ Hint) → Solves x (given es cells ys) (unified more r) → (y : Variable ℕ) (u : Term ℕ Hint) → value_in same_number r y ≡ Some u → support u ≡ []
  answer_clean more r p y u e = only_support [] (λ a. refl) u ((sound sg x (given es cells ys) (unified more r) problem p).0.nameless y u e)

-- a step keeps types
pub step_typed : (sg : Signature) {Hint : Type 0} (x : Hint) (s r : State Hint) → IsTypedState sg s → next x s ≡ goes_on r → IsTypedState sg r
step_typed sg x s r p e =
    let l = step_leads sg x s r (record { equations = p.equations; known = p.known; safe = record { typed = p.typed; nameless = p.nameless } }) e in
    record { equations = l.problem.equations; known = l.problem.known; typed = l.problem.safe.typed; nameless = l.problem.safe.nameless }
