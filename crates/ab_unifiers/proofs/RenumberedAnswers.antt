-- What is put in for the variables of a clause, with other numbers for what is put in: the clause keeps its own numbers.
use Rattle.std.proofs.Common.{◌≡◌, ℕ, List, [], ◌∷◌, ◌++◌, map, Bool, true, false, cond, ◌||◌, Option, Some, refl, sym, ◌∙◌, ap}
use Rattle.std.specs.Prelude.{All}
use Rattle.std.proofs.lemmas.Bool.{false≢true}
use Rattle.std.proofs.lemmas.List.Elements.{All-nil, All-cons, All-head, All-tail}
use Rattle.ab_term.specs.Terms.{Variable, Head, constant, logical, nominal, variable, index, Term, lam, spine, Terms, no_terms, term}
use Rattle.ab_term.specs.Translation.{translate, translate_all}
use Rattle.ab_term.specs.Variables.{variables_of_head, variables, variables_of_all, put_for, put_at, image_by, image_all_by, Substitution, value_in}
use Rattle.ab_term.specs.Sameness.{same_number, same_numbered}
use Rattle.ab_term.proofs.Translations.{translate-reduce}
use Rattle.ab_unifiers.specs.Replacements.{holds}
use Rattle.ab_unifiers.specs.Unifiers.{keys}

module _ {X : Type 0} (P : X → Type 0) where
  front : (xs ys : List X) → All P (xs ++ ys) → All P xs
  front [] ys all = All-nil P
  front (x ∷ xs) ys all = All-cons P x xs (All-head P x (xs ++ ys) all) (front xs ys (All-tail P x (xs ++ ys) all))

  rear : (xs ys : List X) → All P (xs ++ ys) → All P ys
  rear [] ys all = all
  rear (x ∷ xs) ys all = rear xs ys (All-tail P x (xs ++ ys) all)

module _ (f : ℕ → ℕ) {Hint : Type 0} where
  abbrev T : Term ℕ Hint → Term ℕ Hint
  T = translate f (λ x. x)

  abbrev Ts : Terms ℕ Hint → Terms ℕ Hint
  Ts = translate_all f (λ x. x)

  -- the same variables, what is put in for them with other numbers
  abbrev pub values_renumbered : Substitution ℕ Hint → Substitution ℕ Hint
  values_renumbered = map (λ p. (p.0, T p.1))

  module _ (s r : Variable ℕ → Option (Term ℕ Hint)) where
    abbrev Given : Variable ℕ → Type 0
    Given y = (u : Term ℕ Hint) × (s y ≡ Some u) × (r y ≡ Some (T u))

    at_put : (h : Head ℕ) (ts : Terms ℕ Hint) → All Given (variables_of_head h) → T (put_at s h ts) ≡ put_at r h (Ts ts)
    at_put (constant c) ts all = refl
    at_put (logical l) ts all = refl
    at_put (nominal a) ts all = refl
    at_put (variable y) ts all =
        let w = All-head Given y [] all in
        ap (λ o. T (put_for y o ts)) w.1 ∙ translate-reduce f (λ x. x) y.type w.0 ts ∙ ap (λ o. put_for y o (Ts ts)) (sym w.2)
    at_put (index i) ts all = refl

    mutual
      pub put_moved : (t : Term ℕ Hint) → All Given (variables t) → T (image_by s t) ≡ image_by r t
      put_moved (lam A x t) all = ap (lam A x) (put_moved t all)
      put_moved (spine h ts) all =
          at_put h (image_all_by s ts) (front Given (variables_of_head h) (variables_of_all ts) all)
          ∙ ap (put_at r h) (all_put_moved ts (rear Given (variables_of_head h) (variables_of_all ts) all))

      pub all_put_moved : (ts : Terms ℕ Hint) → All Given (variables_of_all ts) → Ts (image_all_by s ts) ≡ image_all_by r ts
      all_put_moved no_terms all = refl
      all_put_moved (term t ts) all =
          ap (λ u. term u (Ts (image_all_by s ts))) (put_moved t (front Given (variables t) (variables_of_all ts) all))
          ∙ ap (term (image_by r t)) (all_put_moved ts (rear Given (variables t) (variables_of_all ts) all))

  -- what is put in for a key
  pub value_given : (s : Substitution ℕ Hint) (y : Variable ℕ) → holds (keys s) y ≡ true
      → (u : Term ℕ Hint) × (value_in same_number s y ≡ Some u) × (value_in same_number (values_renumbered s) y ≡ Some (T u))
  value_given [] y h = absurd (false≢true h)
  value_given (p ∷ s) y h = go (same_numbered p.0 y) h (value_given s y)
    where
      go : (b : Bool) → (b || holds (keys s) y) ≡ true
          → (holds (keys s) y ≡ true → (u : Term ℕ Hint) × (value_in same_number s y ≡ Some u) × (value_in same_number (values_renumbered s) y ≡ Some (T u)))
          → (u : Term ℕ Hint) × (cond b (Some p.1) (value_in same_number s y) ≡ Some u) × (cond b (Some (T p.1)) (value_in same_number (values_renumbered s) y) ≡ Some (T u))
      go true g rest = (p.1, refl, refl)
      go false g rest = rest g
