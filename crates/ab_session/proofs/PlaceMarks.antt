-- One place more is marked, and one more mark is looked at.
use Rattle.std.specs.List.{list_any}
use Rattle.std.specs.Prelude.{slice_get}
use Rattle.std.proofs.Common.{◌≡◌, inl, inr, ℕ, ◌+◌, ◌<◌, ◌≤◌, ◌==◌, ◌||◌, Bool, true, false, if◌then◌else◌, Some, List, [], ◌∷◌, ◌++◌, length, get_or, slice_set, take, refl, sym, ◌∙◌, ap, arith, add-one, append_assoc}
use Rattle.std.proofs.lemmas.Bool.{eqb-true, eq-eqb, cases_eq}
use Rattle.std.proofs.lemmas.Option.{slice_get-get_or}
use Rattle.std.proofs.lemmas.List.{get_or-set_same, get_or-set_other, take_more}
use Rattle.std.proofs.lemmas.List.Folds.{list_any-append}
use Rattle.ab_theory.specs.Assumptions.{in_order}
use Rattle.ab_session.specs.PlaceMarks.{Marks}

abbrev has : ℕ → List ℕ → Bool
has n js = list_any (λ j. j == n) js

has_more : (n p : ℕ) (js : List ℕ) → has n (js ++ p ∷ []) ≡ (has n js || ((p == n) || false))
has_more n p js = list_any-append (λ j. j == n) js (p ∷ [])

or_true : (a : Bool) → (a || (true || false)) ≡ true
or_true true = refl
or_true false = refl

or_false : (a : Bool) → (a || (false || false)) ≡ a
or_false true = refl
or_false false = refl

not_equal : (p n : ℕ) → (p ≡ n → ⊥) → (p == n) ≡ false
not_equal p n never = by_case (p == n) refl
  where
    by_case : (b : Bool) → (p == n) ≡ b → b ≡ false
    by_case false e = refl
    by_case true e = absurd (never (eqb-true p n e))

has_here : (n p : ℕ) (js : List ℕ) → p ≡ n → has n (js ++ p ∷ []) ≡ true
has_here n p js e = has_more n p js ∙ ap (λ b. has n js || (b || false)) (eq-eqb p n e) ∙ or_true (has n js)

has_still : (n p : ℕ) (js : List ℕ) → (p ≡ n → ⊥) → has n (js ++ p ∷ []) ≡ has n js
has_still n p js never = has_more n p js ∙ ap (λ b. has n js || (b || false)) (not_equal p n never) ∙ or_false (has n js)

module _ (ms : List Bool) (js : List ℕ) (p : ℕ) (marks : Marks ms js) where
  -- a place that has a mark
  pub one_marked : (ns : List Bool) → p < length ms → ns ≡ slice_set ms p true → length ns ≡ length ms → Marks ns (js ++ p ∷ [])
  one_marked ns low is size n within =
      let here : slice_get ns n ≡ Some (get_or ns n false) = slice_get-get_or ns n false within in
      let there : slice_get ms n ≡ Some (get_or ms n false) = slice_get-get_or ms n false (omega (arith, within, size)) in
      elim (cases_eq p n) [
        | inl e ↦ here ∙ ap (λ b. Some b) (ap (λ xs. get_or xs n false) is ∙ ap (λ i. get_or (slice_set ms p true) i false) (sym e) ∙ get_or-set_same ms p true false low ∙ sym (has_here n p js e))
        | inr d ↦ here ∙ ap (λ b. Some b) (ap (λ xs. get_or xs n false) is ∙ get_or-set_other ms p n true false (λ f. d (sym f))) ∙ sym there ∙ marks n (omega (arith, within, size)) ∙ ap (λ b. Some b) (sym (has_still n p js d))
      ]

  -- a place beyond all marks
  pub none_marked : length ms ≤ p → Marks ms (js ++ p ∷ [])
  none_marked high n within = marks n within ∙ ap (λ b. Some b) (sym (has_still n p js (λ e. omega (arith, e, high, within))))

-- the places so far, and one more
pub one_more_place : (js ps : List ℕ) (i : ℕ) → i < length ps → js ++ take (i + 1) ps ≡ (js ++ take i ps) ++ get_or ps i 0 ∷ []
one_more_place js ps i low = ap (λ xs. js ++ xs) (take_more ps i 0 low) ∙ sym (append_assoc js (take i ps) (get_or ps i 0 ∷ []))

-- one more mark
pub one_looked_at : (ms : List Bool) (js : List ℕ) (n : ℕ) (b : Bool) (places : List ℕ) → Marks ms js → n < length ms → get_or ms n false ≡ b → places ≡ in_order n js
    → places ++ (if b then n ∷ [] else []) ≡ in_order (n + 1) js
one_looked_at ms js n b places marks low is e =
    let both : Some b ≡ Some (has n js) = ap (λ x. Some x) (sym is) ∙ sym (slice_get-get_or ms n false low) ∙ marks n low in
    let same : b ≡ has n js = cc in
    ap (λ xs. xs ++ (if b then n ∷ [] else [])) e ∙ ap (λ x. in_order n js ++ (if x then n ∷ [] else [])) same ∙ ap (λ m. in_order m js) (sym (add-one n))
