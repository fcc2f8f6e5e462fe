-- Lists that are gone through in search of one value, and the faults of a load.
use Rattle.std.proofs.Common.{◌≡◌, ◌<◌, ◌≤◌, ◌+◌, ℕ, zero, suc, List, [], ◌∷◌, ◌++◌, map, take, drop, length, get_or, Contains, Some, refl, ap, sym, ◌∙◌, subst, inl, inr, ◌⊎◌, arith}
use Rattle.std.proofs.lemmas.List.{map-append, length-map, drop-map, take_more, drop_more}
use Rattle.std.proofs.lemmas.List.Elements.{Contains-append_cases}
use Rattle.ab_io.specs.Loads.{Answer, missing, failed, too_long}
use Rattle.ab_sigmod.specs.FileLoads.{FilesSeen, IsLoad}
use Rattle.ab_sigmod.specs.FileOrder.{Fault, file_missing, file_fault, file_too_long, IsRefusal, is_missing, has_failed, is_too_long}

one_only : {Y : Type 0} (z y : Y) → Contains (z ∷ []) y → z ≡ y
one_only z y (zero, h, e) = e
one_only z y (suc k, h, e) = absurd (omega arith)

take_past : {X : Type 0} (xs : List X) (i : ℕ) → length xs ≤ i → take i xs ≡ xs
take_past [] zero h = refl
take_past [] (suc i) h = refl
take_past (x ∷ xs) zero h = absurd (omega arith)
take_past {X} (x ∷ xs) (suc i) h = ap (λ (ys : List X). x ∷ ys) (take_past xs i (omega arith))

module _ {X Y : Type 0} (g : X → Y) where
  pub contains_at : (xs : List X) (i : ℕ) (d : X) → i < length xs → Contains (map g xs) (g (get_or xs i d))
  contains_at [] i d h = absurd (omega arith)
  contains_at (x ∷ xs) zero d h = (zero, omega arith, refl)
  contains_at (x ∷ xs) (suc i) d h = let r = contains_at xs i d (omega arith) in (suc r.0, omega (arith, r.1), r.2)

  module _ (xs : List X) (i : ℕ) (y : Y) where
    pub found : (d : X) → i < length xs → g (get_or xs i d) ≡ y → (i < length (map g xs)) × (drop i (map g xs) ≡ y ∷ drop (i + 1) (map g xs))
    found d h e = (
      omega (arith, h, length-map xs g),
      drop-map g i xs ∙ ap (map g) (drop_more xs i d h) ∙ ap (λ (z : Y). z ∷ map g (drop (i + 1) xs)) e ∙ ap (λ (zs : List Y). y ∷ zs) (sym (drop-map g (i + 1) xs)),
    )

    pub not_yet : (d : X) → i < length xs → (g (get_or xs i d) ≡ y → ⊥) → ¬ Contains (map g (take i xs)) y → ¬ Contains (map g (take (i + 1) xs)) y
    not_yet d h n m c =
        let more : map g (take (i + 1) xs) ≡ map g (take i xs) ++ g (get_or xs i d) ∷ [] = ap (map g) (take_more xs i d h) ∙ map-append g (take i xs) (get_or xs i d ∷ []) in
        by_part (Contains-append_cases (map g (take i xs)) (g (get_or xs i d) ∷ []) y (subst (λ (zs : List Y). Contains zs y) more c))
      where
        by_part : Contains (map g (take i xs)) y ⊎ Contains (g (get_or xs i d) ∷ []) y → ⊥
        by_part (inl a) = m a
        by_part (inr a) = n (one_only (g (get_or xs i d)) y a)

  pub all_of : (xs : List X) (i : ℕ) → length xs ≤ i → map g xs ≡ map g (take i xs)
  all_of xs i h = ap (map g) (sym (take_past xs i h))

-- a load that gives no bytes
module _ {s t : FilesSeen} (x y : List ℕ) (f : Fault) (same : y ≡ x) where
  pub none_there : IsLoad s (record { name = x; answer = missing }) t → Some (file_missing y) ≡ Some f → (a : Answer) × IsLoad s (record { name = x; answer = a }) t × IsRefusal x a f
  none_there l e = let is : file_missing y ≡ f = cc in (missing, l, subst (IsRefusal x missing) (ap file_missing (sym same) ∙ is) is_missing)

  pub none_given : IsLoad s (record { name = x; answer = failed }) t → Some (file_fault y) ≡ Some f → (a : Answer) × IsLoad s (record { name = x; answer = a }) t × IsRefusal x a f
  none_given l e = let is : file_fault y ≡ f = cc in (failed, l, subst (IsRefusal x failed) (ap file_fault (sym same) ∙ is) has_failed)

  pub too_many_bytes : IsLoad s (record { name = x; answer = too_long }) t → Some (file_too_long y) ≡ Some f → (a : Answer) × IsLoad s (record { name = x; answer = a }) t × IsRefusal x a f
  too_many_bytes l e = let is : file_too_long y ≡ f = cc in (too_long, l, subst (IsRefusal x too_long) (ap file_too_long (sym same) ∙ is) is_too_long)
