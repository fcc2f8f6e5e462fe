-- A list by its first item, and without an item.
use Rattle.std.specs.Prelude.{Option, Some, None, bytes_eq, option_map, if◌then◌else◌}
use Rattle.std.specs.Option.{option_and_then}
use Rattle.std.proofs.Common.{◌≡◌, ◌≢◌, ℕ, List, [], ◌∷◌, map, length, codes, Bool, true, false, refl, sym, ◌∙◌, ap}
use Rattle.ab_term.specs.Terms.{constant, nominal, variable, index, logical, lam, spine, no_terms, term, terms_of, Read}
use Rattle.ab_term.specs.Sameness.{same_term}
use Rattle.ab_unifiers.specs.Member.{before}
use Rattle.ab_theory.specs.Contexts.{without_item, list_if_same, cut_list}
use Rattle.ab_judgement_forms.specs.ListItems.{first_item}

module _ {X : Type 0} (f : X → Read) (c : List ℕ) where
  pub not_two : (ts : List X) → length ts ≢ 2 → first_item (spine (constant c) (terms_of (map f ts))) ≡ None
  not_two [] e = refl
  not_two (t ∷ []) e = refl
  not_two (t ∷ u ∷ []) e = absurd (e refl)
  not_two (t ∷ u ∷ v ∷ ts) e = refl

  pub not_cons : (ts : List X) → bytes_eq c (codes "::") ≡ false → first_item (spine (constant c) (terms_of (map f ts))) ≡ None
  not_cons [] e = refl
  not_cons (t ∷ []) e = refl
  not_cons (t ∷ u ∷ []) e = ap (λ b. if b then Some (f t, f u) else None) e
  not_cons (t ∷ u ∷ v ∷ ts) e = refl

-- what is left of a list, by its first item
abbrev pub left_by : Read → Option (Read × Read) → Option Read
left_by G None = None
left_by G (Some p) = if same_term p.0 G then Some p.1 else option_map (before p.0) (without_item p.1 G)

-- the cases of one test
both_tests : (b : Bool) (F L G : Read)
    → (if b then (if same_term F G then Some L else option_map (before F) (without_item L G)) else None) ≡ left_by G (if b then Some (F, L) else None)
both_tests true F L G = refl
both_tests false F L G = refl

pub without_by : (L G : Read) → without_item L G ≡ left_by G (first_item L)
without_by (lam A x t) G = refl
without_by (spine (nominal a) ts) G = refl
without_by (spine (variable v) ts) G = refl
without_by (spine (index i) ts) G = refl
without_by (spine (logical l) ts) G = refl
without_by (spine (constant c) no_terms) G = refl
without_by (spine (constant c) (term F no_terms)) G = refl
without_by (spine (constant c) (term F (term L no_terms))) G = both_tests (bytes_eq c (codes "::")) F L G
without_by (spine (constant c) (term F (term L (term M ts)))) G = refl

-- the first item is the one, or isn't

module _ (L G F M : Read) (is : first_item L ≡ Some (F, M)) where
  by_item : without_item L G ≡ (if same_term F G then Some M else option_map (before F) (without_item M G))
  by_item = without_by L G ∙ ap (left_by G) is

  pub without_first : same_term F G ≡ true → without_item L G ≡ Some M
  without_first e = by_item ∙ ap (λ b. if b then Some M else option_map (before F) (without_item M G)) e

  pub without_later : same_term F G ≡ false → without_item L G ≡ option_map (before F) (without_item M G)
  without_later e = by_item ∙ ap (λ b. if b then Some M else option_map (before F) (without_item M G)) e

pub without_none : (L G : Read) → first_item L ≡ None → without_item L G ≡ None
without_none L G is = without_by L G ∙ ap (left_by G) is

-- what a cut leaves

pub cut_none : (L G M : Read) → without_item L G ≡ None → cut_list L G M ≡ None
cut_none L G M e = ap (option_and_then (list_if_same M)) e

module _ (L G M K : Read) (e : without_item L G ≡ Some K) where
  pub cut_same : same_term K M ≡ true → cut_list L G M ≡ Some K
  cut_same s = ap (option_and_then (list_if_same M)) e ∙ ap (λ b. if b then Some K else None) s

  pub cut_other : same_term K M ≡ false → cut_list L G M ≡ None
  cut_other s = ap (option_and_then (list_if_same M)) e ∙ ap (λ b. if b then Some K else None) s
