-- Runs of a machine over tokens.
use Rattle.std.proofs.Common.{◌≡◌, List, [], ◌∷◌, ◌++◌, Option, None, refl, ap, ◌∙◌}
use Rattle.ab_grammar.specs.Token.{Token}
use Rattle.ab_grammar.proofs.Machine.{step_in, run}

module _ {S : Type 0} (step : S → Token → Option S) where
  pub run_append : (s : Option S) (ts us : List Token) → run step s (ts ++ us) ≡ run step (run step s ts) us
  run_append s [] us = refl
  run_append s (k ∷ ts) us = run_append (step_in step s k) ts us

  -- the first part is read, and the run goes on behind it
  pub then_run : (s : Option S) (ts us : List Token) (m : Option S) → run step s ts ≡ m → run step s (ts ++ us) ≡ run step m us
  then_run s ts us m e = run_append s ts us ∙ ap (λ q. run step q us) e

  pub run_none : (ts : List Token) → run step None ts ≡ None
  run_none [] = refl
  run_none (k ∷ ts) = run_none ts
