-- What a list contains, and pairwise different elements, by cases on the list.
use Rattle.std.proofs.Common.{◌≡◌, ◌≢◌, ◌⊎◌, inl, inr, zero, suc, List, [], ◌∷◌, map, Bool, true, false, refl, sym, ◌∙◌, subst, arith}
use Rattle.std.specs.Prelude.{All, AllPairs, Contains, Decides}
use Rattle.std.proofs.lemmas.List.Elements.{All-cons, All-nil, All-map}
use Rattle.std.proofs.lemmas.List.Kept.{AllPairs-cons}

module _ {X : Type 0} where
  pub Contains-none : (a : X) → Contains [] a → ⊥
  Contains-none a c = absurd (omega (arith, c.1))

  pub Contains-here : (x : X) (xs : List X) → Contains (x ∷ xs) x
  Contains-here x xs = (0, omega arith, refl)

  pub Contains-there : (x : X) (xs : List X) (a : X) → Contains xs a → Contains (x ∷ xs) a
  Contains-there x xs a c = (suc c.0, omega (arith, c.1), c.2)

  pub Contains-cases : (x : X) (xs : List X) (a : X) → Contains (x ∷ xs) a → (x ≡ a) ⊎ Contains xs a
  Contains-cases x xs a (zero, low, e) = inl e
  Contains-cases x xs a (suc k, low, e) = inr (k, omega (arith, low), e)

  pub AllPairs-none : (R : X → X → Type 0) → AllPairs R []
  AllPairs-none R i j d l h = absurd (omega arith)

  pub AllPairs-parts : (R : X → X → Type 0) (x : X) (xs : List X) → AllPairs R (x ∷ xs) → All (R x) xs × AllPairs R xs
  AllPairs-parts R x xs h = (λ k d l. h 0 (suc k) d (omega arith) (omega arith), λ i j d l m. h (suc i) (suc j) d (omega arith) (omega arith))

  pub All-from_contains : (P : X → Type 0) (xs : List X) → ((a : X) → Contains xs a → P a) → All P xs
  All-from_contains P [] h = All-nil P
  All-from_contains P (x ∷ xs) h = All-cons P x xs (h x (Contains-here x xs)) (All-from_contains P xs (λ a c. h a (Contains-there x xs a c)))

module _ {X Y : Type 0} (f : X → Y) where
  pub AllPairs-map : (R : Y → Y → Type 0) (xs : List X) → AllPairs (λ a b. R (f a) (f b)) xs → AllPairs R (map f xs)
  AllPairs-map R [] d = AllPairs-none R
  AllPairs-map R (x ∷ xs) d =
      let parts = AllPairs-parts (λ a b. R (f a) (f b)) x xs d in
      AllPairs-cons R (f x) (map f xs) (All-map (R (f x)) f xs parts.0) (AllPairs-map R xs parts.1)

  pub Contains-map : (xs : List X) (a : X) → Contains xs a → Contains (map f xs) (f a)
  Contains-map [] a c = absurd (Contains-none a c)
  Contains-map (x ∷ xs) a c = go (Contains-map xs a) (Contains-cases x xs a c)
    where
      go : (Contains xs a → Contains (map f xs) (f a)) → (x ≡ a) ⊎ Contains xs a → Contains (f x ∷ map f xs) (f a)
      go rest (inl e) = subst (λ b. Contains (f x ∷ map f xs) (f b)) e (Contains-here (f x) (map f xs))
      go rest (inr m) = Contains-there (f x) (map f xs) (f a) (rest m)

  pub Contains-from_map : (xs : List X) (b : Y) → Contains (map f xs) b → (a : X) × (Contains xs a) × (f a ≡ b)
  Contains-from_map [] b c = absurd (Contains-none b c)
  Contains-from_map (x ∷ xs) b c = go (Contains-from_map xs b) (Contains-cases (f x) (map f xs) b c)
    where
      go : (Contains (map f xs) b → (a : X) × (Contains xs a) × (f a ≡ b)) → (f x ≡ b) ⊎ Contains (map f xs) b → (a : X) × (Contains (x ∷ xs) a) × (f a ≡ b)
      go rest (inl e) = (x, Contains-here x xs, e)
      go rest (inr m) = let r = rest m in (r.0, Contains-there x xs r.0 r.1, r.2)

-- a list without repetitions, by a test of whether two elements are the same
module _ {X : Type 0} (same : X → X → Bool) (decides : (a b : X) → Decides (same a b) (a ≡ b)) where
  pub contains_or_not : (xs : List X) (a : X) → Contains xs a ⊎ (Contains xs a → ⊥)
  contains_or_not [] a = inr (Contains-none a)
  contains_or_not (x ∷ xs) a = go (same x a) refl (contains_or_not xs a)
    where
      go : (b : Bool) → same x a ≡ b → Contains xs a ⊎ (Contains xs a → ⊥) → Contains (x ∷ xs) a ⊎ (Contains (x ∷ xs) a → ⊥)
      go true e r = inl (subst (Contains (x ∷ xs)) ((decides x a).0 e) (Contains-here x xs))
      go false e (inl c) = inl (Contains-there x xs a c)
      go false e (inr n) = inr (λ c. elim (Contains-cases x xs a c) [ inl p ↦ absurd (let q : false ≡ true = sym e ∙ (decides x a).1 p in cc) | inr m ↦ n m ])

  abbrev pub add_new : (x : X) (xs : List X) → Contains xs x ⊎ (Contains xs x → ⊥) → List X
  add_new x xs (inl c) = xs
  add_new x xs (inr n) = x ∷ xs

  abbrev pub distinct : List X → List X
  distinct [] = []
  distinct (x ∷ xs) = add_new x (distinct xs) (contains_or_not (distinct xs) x)

  pub distinct_pairs : (xs : List X) → AllPairs (λ a b. a ≢ b) (distinct xs)
  distinct_pairs [] = AllPairs-none (λ a b. a ≢ b)
  distinct_pairs (x ∷ xs) = go (distinct xs) (contains_or_not (distinct xs) x) (distinct_pairs xs)
    where
      go : (ys : List X) (c : Contains ys x ⊎ (Contains ys x → ⊥)) → AllPairs (λ a b. a ≢ b) ys → AllPairs (λ a b. a ≢ b) (add_new x ys c)
      go ys (inl c) ps = ps
      go ys (inr n) ps = AllPairs-cons (λ a b. a ≢ b) x ys (All-from_contains (λ b. x ≢ b) ys (λ b c e. n (subst (Contains ys) (sym e) c))) ps

  pub Contains-distinct : (xs : List X) (a : X) → Contains xs a → Contains (distinct xs) a
  Contains-distinct [] a c = c
  Contains-distinct (x ∷ xs) a c = go (distinct xs) (contains_or_not (distinct xs) x) (Contains-distinct xs a) (Contains-cases x xs a c)
    where
      go : (ys : List X) (o : Contains ys x ⊎ (Contains ys x → ⊥)) → (Contains xs a → Contains ys a) → (x ≡ a) ⊎ Contains xs a → Contains (add_new x ys o) a
      go ys (inl d) rest (inl e) = subst (Contains ys) e d
      go ys (inl d) rest (inr m) = rest m
      go ys (inr n) rest (inl e) = subst (Contains (x ∷ ys)) e (Contains-here x ys)
      go ys (inr n) rest (inr m) = Contains-there x ys a (rest m)

  pub Contains-undistinct : (xs : List X) (a : X) → Contains (distinct xs) a → Contains xs a
  Contains-undistinct [] a c = c
  Contains-undistinct (x ∷ xs) a c = go (distinct xs) (contains_or_not (distinct xs) x) (Contains-undistinct xs a) c
    where
      go : (ys : List X) (o : Contains ys x ⊎ (Contains ys x → ⊥)) → (Contains ys a → Contains xs a) → Contains (add_new x ys o) a → Contains (x ∷ xs) a
      go ys (inl d) rest m = Contains-there x xs a (rest m)
      go ys (inr n) rest m = elim (Contains-cases x ys a m) [ inl e ↦ subst (Contains (x ∷ xs)) e (Contains-here x xs) | inr k ↦ Contains-there x xs a (rest k) ]
