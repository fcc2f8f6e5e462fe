-- What is left of a formula, once its equations are solved: antecedents for which nothing is given, and the result.
use Rattle.std.specs.List.{list_any}
use Rattle.std.specs.Prelude.{ℕ, Bool, true, false, ◌||◌, ◌≤◌, length, Option, Some, None, List, [], ◌∷◌, ◌++◌, map}
use Rattle.std.proofs.Common.{◌≡◌, refl, sym, ◌∙◌, ap, arith, append-nil}
use Rattle.ab_term.specs.Terms.{Variable, term, no_terms, Read}
use Rattle.ab_term.specs.Variables.{Substitution, image, variables, variables_of_all}
use Rattle.ab_term.specs.Sameness.{same_number, same_numbered}
use Rattle.ab_unifiers.specs.Replacements.{holds, occurs}
use Rattle.ab_theory.specs.Uses.{implied, awaiting}
use Rattle.ab_theory.specs.UseAnswers.{awaited, result_in}
use Rattle.ab_uses.specs.UseSolutions.{missing, behind_all}

pub awaiting_is : (hs : List (Option Read)) (As : List Read) (R : Read) → awaiting hs As R ≡ behind_all (missing hs As) R
awaiting_is [] As R = refl
awaiting_is (h ∷ hs) [] R = refl
awaiting_is (None ∷ hs) (A ∷ As) R = ap (implied A) (awaiting_is hs As R)
awaiting_is (Some G ∷ hs) (A ∷ As) R = awaiting_is hs As R

pub behind_image : (s : Substitution ℕ (List ℕ)) (As : List Read) (R : Read) → image same_number s (behind_all As R) ≡ behind_all (map (image same_number s) As) (image same_number s R)
behind_image s [] R = refl
behind_image s (A ∷ As) R = ap (implied (image same_number s A)) (behind_image s As R)

-- what is taken apart again, whatever it became
pub awaited_is : (f : Read → Read) (hs : List (Option Read)) (As : List Read) (R : Read) → length hs ≤ length As → awaited hs (behind_all (map f (missing hs As)) R) ≡ map f (missing hs As)
awaited_is f [] As R l = refl
awaited_is f (h ∷ hs) [] R l = absurd (omega (arith, l))
awaited_is f (None ∷ hs) (A ∷ As) R l = ap (λ k. f A ∷ k) (awaited_is f hs As R (omega (arith, l)))
awaited_is f (Some G ∷ hs) (A ∷ As) R l = awaited_is f hs As R (omega (arith, l))

pub result_is : (f : Read → Read) (hs : List (Option Read)) (As : List Read) (R : Read) → length hs ≤ length As → result_in hs (behind_all (map f (missing hs As)) R) ≡ R
result_is f [] As R l = refl
result_is f (h ∷ hs) [] R l = absurd (omega (arith, l))
result_is f (None ∷ hs) (A ∷ As) R l = result_is f hs As R (omega (arith, l))
result_is f (Some G ∷ hs) (A ∷ As) R l = result_is f hs As R (omega (arith, l))

-- the variables of what is left are those of its parts
holds_in : (xs ys : List (Variable ℕ)) (y : Variable ℕ) → holds (xs ++ ys) y ≡ (holds xs y || holds ys y)
holds_in [] ys y = refl
holds_in (x ∷ xs) ys y = ap (λ b. same_numbered x y || b) (holds_in xs ys y) ∙ or_assoc (same_numbered x y) (holds xs y) (holds ys y)
  where
    or_assoc : (a b c : Bool) → (a || (b || c)) ≡ ((a || b) || c)
    or_assoc true b c = refl
    or_assoc false b c = refl

pub stands_behind : (As : List Read) (R : Read) (y : Variable ℕ) → holds (variables (behind_all As R)) y ≡ list_any (λ t. occurs y t) (As ++ R ∷ [])
stands_behind [] R y = sym (or_none (holds (variables R) y))
  where
    or_none : (b : Bool) → (b || false) ≡ b
    or_none true = refl
    or_none false = refl
stands_behind (A ∷ As) R y =
    holds_in (variables A) (variables_of_all (term (behind_all As R) no_terms)) y
    ∙ ap (λ l. holds (variables A) y || holds l y) (append-nil (variables (behind_all As R)))
    ∙ ap (λ b. holds (variables A) y || b) (stands_behind As R y)
