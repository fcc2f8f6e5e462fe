-- The program's stacks, whose last item is the first of the machine's.
use Rattle.std.proofs.Common.{◌≡◌, List, [], ◌∷◌, ◌++◌, refl, ap, ◌∙◌}
use Rattle.ab_expressions.specs.ReaderSteps.{stack}

module _ {A B : Type 0} (f : A → B) where
  stack_push : (xs : List A) (x : A) → stack f (xs ++ x ∷ []) ≡ f x ∷ stack f xs
  stack_push [] x = refl
  stack_push (y ∷ xs) x = ap (λ (l : List B). l ++ f y ∷ []) (stack_push xs x)

  pub top : (xs ys : List A) (x : A) → xs ≡ ys ++ x ∷ [] → stack f xs ≡ f x ∷ stack f ys
  top xs ys x e = ap (stack f) e ∙ stack_push ys x
