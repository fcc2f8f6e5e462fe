-- How many rules are carried out before a problem is answered.
use Rattle.std.specs.Prelude.{◌≡◌, ℕ, suc, None}
use Rattle.ab_patterns.specs.ab_unifiers.specs.Unification.{State, apart, rule, first_found, finished, goes_on, next}

module _ {Hint : Type 0} (x : Hint) where
  -- so many; the one that finds two sides apart is the last
  pub data Takes : State Hint → ℕ → Type 0 where
    no_rule : {s : State Hint} → first_found (rule x s.cells s.flexible) s.equations ≡ None → Takes s 0
    last_rule : {s : State Hint} → next x s ≡ finished apart → Takes s 1
    one_rule : {s r : State Hint} {n : ℕ} → next x s ≡ goes_on r → Takes r n → Takes s (suc n)
