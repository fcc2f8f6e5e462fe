-- Two rows of steps from one state lead to one answer: a step is a function of its state.
use Rattle.std.proofs.Common.{◌≡◌, sym, ◌∙◌, subst}
use Rattle.ab_unifiers.specs.Unification.{State, Answer, Next, finished, goes_on, Solves, at_end, by_step}

module _ {Hint : Type 0} (x : Hint) where
  one_ending : {n : Next Hint} {a b : Answer Hint} → n ≡ finished a → n ≡ finished b → a ≡ b
  one_ending e f = let both : finished _ ≡ finished _ = sym e ∙ f in cc

  pub not_both : {n : Next Hint} {a : Answer Hint} {r : State Hint} → n ≡ finished a → n ≡ goes_on r → ⊥
  not_both {a = a} {r = r} e f = let both : finished a ≡ goes_on r = sym e ∙ f in cc

  pub one_step : {n : Next Hint} {r q : State Hint} → n ≡ goes_on r → n ≡ goes_on q → r ≡ q
  one_step {r = r} {q = q} e f = let both : goes_on r ≡ goes_on q = sym e ∙ f in cc

  pub unique : {s : State Hint} {a b : Answer Hint} → Solves x s a → Solves x s b → a ≡ b
  unique (at_end e) (at_end f) = one_ending e f
  unique (at_end e) (by_step f q) = absurd (not_both e f)
  unique (by_step e p) (at_end f) = absurd (not_both f e)
  unique (by_step {a = a} e p) (by_step {a = b} f q) = unique p (subst (λ r. Solves x r b) (sym (one_step e f)) q)
