-- The first equation to which a rule applies, where none does to those before it.
use Rattle.std.proofs.Common.{◌≡◌, List, [], ◌∷◌, ◌++◌, Option, Some, None, refl, ◌∙◌, ap}
use Rattle.std.specs.Prelude.{All}
use Rattle.std.proofs.lemmas.List.Elements.{All-head, All-tail}
use Rattle.ab_patterns.specs.ab_unifiers.specs.Unification.{Equation, Result, first_found, found_at}

module _ {Hint : Type 0} (f : Equation Hint → Option (Result Hint)) where
  pub found_first : (before : List (Equation Hint)) (e : Equation Hint) (behind : List (Equation Hint)) (r : Result Hint) → All (λ e. f e ≡ None) before → f e ≡ Some r
      → first_found f (before ++ e ∷ behind) ≡ Some (record { before = before; result = r; behind = behind })
  found_first [] e behind r rest is = ap (λ o. found_at e behind o (first_found f behind)) is
  found_first (b ∷ bs) e behind r rest is =
      ap (λ o. found_at b (bs ++ e ∷ behind) o (first_found f (bs ++ e ∷ behind))) (All-head (λ e. f e ≡ None) b bs rest)
      ∙ ap (found_at b (bs ++ e ∷ behind) None) (found_first bs e behind r (All-tail (λ e. f e ≡ None) b bs rest) is)

  pub found_none : (es : List (Equation Hint)) → All (λ e. f e ≡ None) es → first_found f es ≡ None
  found_none [] rest = refl
  found_none (e ∷ es) rest =
      ap (λ o. found_at e es o (first_found f es)) (All-head (λ e. f e ≡ None) e es rest)
      ∙ ap (found_at e es None) (found_none es (All-tail (λ e. f e ≡ None) e es rest))
