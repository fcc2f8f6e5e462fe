-- How many rules a step carries out.
use Rattle.std.proofs.Common.{◌≡◌, ℕ, suc, ◌≤◌, None, refl, sym, ◌∙◌, ap, subst, arith}
use Rattle.ab_patterns.specs.ab_unifiers.specs.Unification.{State, Answer, apart, rule, first_found, finished, goes_on, next_by, next, ending}
use Rattle.ab_patterns.specs.ab_unifiers.proofs.Unique.{not_both, one_step}
use Rattle.ab_unify.specs.RuleCounts.{Takes, no_rule, last_rule, one_rule}

module _ {Hint : Type 0} (x : Hint) where
  ends_so : (s : State Hint) → first_found (rule x s.cells s.flexible) s.equations ≡ None → next x s ≡ finished (ending s s.equations)
  ends_so s e = ap (next_by s) e

  -- a step that goes on is one rule
  pub takes_on : {s r : State Hint} (n : ℕ) → Takes x s n → next x s ≡ goes_on r → (m : ℕ) × (n ≡ suc m) × Takes x r m
  takes_on {s = s} n (no_rule e) f = absurd (not_both x (ends_so s e) f)
  takes_on n (last_rule e) f = absurd (not_both x e f)
  takes_on n (one_rule {n = m} e t) f = (m, refl, subst (λ r. Takes x r m) (one_step x e f) t)

  -- the last one finds two sides apart
  pub takes_last : {s : State Hint} (n : ℕ) (a : Answer Hint) → Takes x s n → next x s ≡ finished a → n ≤ 1
  takes_last n a (no_rule e) f = omega arith
  takes_last n a (last_rule e) f = omega arith
  takes_last n a (one_rule e t) f = absurd (not_both x f e)

  -- else there is none
  pub takes_no_more : {s : State Hint} (n : ℕ) (a : Answer Hint) → (a ≡ apart → ⊥) → Takes x s n → next x s ≡ finished a → n ≤ 0
  takes_no_more n a other (no_rule e) f = omega arith
  takes_no_more n a other (last_rule e) f = absurd (other (let both : finished apart ≡ finished a = sym e ∙ f in cc))
  takes_no_more n a other (one_rule e t) f = absurd (not_both x f e)
