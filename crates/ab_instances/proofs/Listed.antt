-- Tests, and lists that are looked through from the first.
use Rattle.std.proofs.Common.{◌≡◌, ℕ, suc, ◌+◌, ◌<◌, List, [], ◌∷◌, map, take, length, get_or, Bool, true, false, cond, ◌||◌, ◌↔◌, Decides, refl, sym, ◌∙◌, ap, subst}
use Rattle.std.specs.List.{list_any}
use Rattle.std.proofs.lemmas.List.{map_more, get_or-map, length-map}
use Rattle.std.proofs.lemmas.List.Folds.{list_any-append, list_any_at}
use Rattle.ab_term.specs.Terms.{Nominal}
use Rattle.ab_unifiers.specs.Choices.{is_number_of, free_number}

pub test_same : {P Q : Type 0} (r q : Bool) → ((r ≡ true) ↔ P) → Decides q Q → (P → Q) → (Q → P) → r ≡ q
test_same true true e d f g = refl
test_same false false e d f g = refl
test_same true false e d f g = sym (d.1 (f (e.0 refl)))
test_same false true e d f g = e.1 (g (d.0 refl))

module _ {X Y : Type 0} (p : Y → Bool) (f : X → Y) (xs : List X) (i : ℕ) (d : X) (within : i < length xs) where
  pub any_more : list_any p (map f (take i xs)) ≡ false → p (f (get_or xs i d)) ≡ false → list_any p (map f (take (i + 1) xs)) ≡ false
  any_more before here =
      ap (list_any p) (map_more f xs i d within)
      ∙ list_any-append p (map f (take i xs)) (f (get_or xs i d) ∷ [])
      ∙ ap (λ b. b || (p (f (get_or xs i d)) || false)) before
      ∙ ap (λ b. b || false) here

  pub any_here : p (f (get_or xs i d)) ≡ true → list_any p (map f xs) ≡ true
  any_here here =
      list_any_at p (map f xs) i (f d) (subst (λ n. i < n) (sym (length-map xs f)) within)
      (ap p (get_or-map f xs i d (f d) within) ∙ here)

-- one number was tried
pub tried_more : (xs : List Nominal) (k n : ℕ) → is_number_of xs n ≡ true → free_number (suc k) n xs ≡ free_number k (suc n) xs
tried_more xs k n e = ap (λ b. cond b (free_number k (suc n) xs) n) e

pub tried_last : (xs : List Nominal) (k n : ℕ) → is_number_of xs n ≡ false → free_number (suc k) n xs ≡ n
tried_last xs k n e = ap (λ b. cond b (free_number k (suc n) xs) n) e
