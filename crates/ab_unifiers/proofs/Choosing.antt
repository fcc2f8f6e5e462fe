-- Which constants are in a list, which outside, in order; and what the list of choices has.
use Rattle.std.proofs.Common.{◌≡◌, ◌≢◌, ◌⊎◌, inl, inr, List, [], ◌∷◌, Bool, true, false, cond, not, ◌||◌, refl, sym, ◌∙◌, ap, subst}
use Rattle.std.specs.Prelude.{All, AllPairs, Contains, filter, nat_lt}
use Rattle.std.proofs.lemmas.Bool.{false≢true, or_left, or_right}
use Rattle.std.proofs.lemmas.List.Elements.{Contains-append_left, Contains-append_right, Contains-append_cases, All-nil, All-contains}
use Rattle.std.proofs.lemmas.List.Kept.{AllPairs-cons}
use Rattle.ab_term.specs.Terms.{Nominal}
use Rattle.ab_term.specs.Names.{same_nominal}
use Rattle.ab_term.proofs.Comparisons.{same_nominal-Decides}
use Rattle.ab_term.proofs.Lists.{Contains-none, Contains-here, Contains-there, Contains-cases, AllPairs-none, AllPairs-parts, All-from_contains}
use Rattle.ab_unifiers.specs.Choices.{is_in, outside, placed, in_order, for_each}
use Rattle.ab_unifiers.proofs.Constants.{either}

pub in_contains : (xs : List Nominal) (a : Nominal) → is_in xs a ≡ true → Contains xs a
in_contains [] a e = absurd (false≢true e)
in_contains (b ∷ xs) a e = go (same_nominal b a) refl e (in_contains xs a)
  where
    go : (t : Bool) → same_nominal b a ≡ t → (t || is_in xs a) ≡ true → (is_in xs a ≡ true → Contains xs a) → Contains (b ∷ xs) a
    go true f g rest = subst (Contains (b ∷ xs)) ((same_nominal-Decides b a).0 f) (Contains-here b xs)
    go false f g rest = Contains-there b xs a (rest g)

pub contains_in : (xs : List Nominal) (a : Nominal) → Contains xs a → is_in xs a ≡ true
contains_in [] a c = absurd (Contains-none a c)
contains_in (b ∷ xs) a c = either (λ e. or_left (same_nominal b a) (is_in xs a) ((same_nominal-Decides b a).1 e)) (λ m. or_right (same_nominal b a) (is_in xs a) (contains_in xs a m)) (Contains-cases b xs a c)

-- what a filter keeps
module _ {X : Type 0} (test : X → Bool) where
  pub kept_contains : (xs : List X) (a : X) → Contains xs a → test a ≡ true → Contains (filter test xs) a
  kept_contains [] a c e = c
  kept_contains (b ∷ xs) a c e = go (test b) refl (Contains-cases b xs a c) (λ m. kept_contains xs a m e)
    where
      go : (t : Bool) → test b ≡ t → (b ≡ a) ⊎ Contains xs a → (Contains xs a → Contains (filter test xs) a) → Contains (cond t (b ∷ filter test xs) (filter test xs)) a
      go true f (inl q) rest = subst (Contains (b ∷ filter test xs)) q (Contains-here b (filter test xs))
      go true f (inr m) rest = Contains-there b (filter test xs) a (rest m)
      go false f (inl q) rest = absurd (false≢true (sym f ∙ ap test q ∙ e))
      go false f (inr m) rest = rest m

  pub contains_kept : (xs : List X) (a : X) → Contains (filter test xs) a → Contains xs a × (test a ≡ true)
  contains_kept [] a c = absurd (Contains-none a c)
  contains_kept (b ∷ xs) a c = go (test b) refl c (contains_kept xs a)
    where
      go : (t : Bool) → test b ≡ t → Contains (cond t (b ∷ filter test xs) (filter test xs)) a → (Contains (filter test xs) a → Contains xs a × (test a ≡ true)) → Contains (b ∷ xs) a × (test a ≡ true)
      go true f m rest = either (λ q. (subst (Contains (b ∷ xs)) q (Contains-here b xs), ap test (sym q) ∙ f)) (λ n. let r = rest n in (Contains-there b xs a r.0, r.1)) (Contains-cases b (filter test xs) a m)
      go false f m rest = let r = rest m in (Contains-there b xs a r.0, r.1)

  pub kept_pairs : (R : X → X → Type 0) (xs : List X) → AllPairs R xs → AllPairs R (filter test xs)
  kept_pairs R [] d = d
  kept_pairs R (b ∷ xs) d = go (test b) (kept_pairs R xs parts.1)
    where
      parts : All (R b) xs × AllPairs R xs
      parts = AllPairs-parts R b xs d

      go : (t : Bool) → AllPairs R (filter test xs) → AllPairs R (cond t (b ∷ filter test xs) (filter test xs))
      go true rest = AllPairs-cons R b (filter test xs) (All-from_contains (R b) (filter test xs) (λ a m. All-contains (R b) xs a parts.0 (contains_kept xs a m).0)) rest
      go false rest = rest

-- of two lists: in both, or outside
pub in_or_outside : (xs ys : List Nominal) (a : Nominal) → Contains xs a → Contains ys a ⊎ Contains (outside xs ys) a
in_or_outside xs ys a c = go (is_in ys a) refl
  where
    go : (t : Bool) → is_in ys a ≡ t → Contains ys a ⊎ Contains (outside xs ys) a
    go true e = inl (in_contains ys a e)
    go false e = inr (kept_contains (λ b. not (is_in ys b)) xs a c (ap not e))

pub outside_contains : (xs ys : List Nominal) (a : Nominal) → Contains (outside xs ys) a → Contains xs a × ¬ (Contains ys a)
outside_contains xs ys a c =
    let kept = contains_kept (λ b. not (is_in ys b)) xs a c in
    (kept.0, λ m. false≢true (sym (ap not (contains_in ys a m)) ∙ kept.1))

-- in order of number
pub placed_cases : (b : Nominal) (xs : List Nominal) (a : Nominal) → Contains (placed b xs) a → (b ≡ a) ⊎ Contains xs a
placed_cases b [] a c = Contains-cases b [] a c
placed_cases b (y ∷ xs) a c = go (nat_lt b.number y.number) c (placed_cases b xs a)
  where
    go : (t : Bool) → Contains (cond t (b ∷ y ∷ xs) (y ∷ placed b xs)) a → (Contains (placed b xs) a → (b ≡ a) ⊎ Contains xs a) → (b ≡ a) ⊎ Contains (y ∷ xs) a
    go true m rest = Contains-cases b (y ∷ xs) a m
    go false m rest = either (λ e. inr (subst (Contains (y ∷ xs)) e (Contains-here y xs))) (λ n. either inl (λ k. inr (Contains-there y xs a k)) (rest n)) (Contains-cases y (placed b xs) a m)

placed_itself : (b : Nominal) (xs : List Nominal) → Contains (placed b xs) b
placed_itself b [] = Contains-here b []
placed_itself b (y ∷ xs) = go (nat_lt b.number y.number) (placed_itself b xs)
  where
    go : (t : Bool) → Contains (placed b xs) b → Contains (cond t (b ∷ y ∷ xs) (y ∷ placed b xs)) b
    go true m = Contains-here b (y ∷ xs)
    go false m = Contains-there y (placed b xs) b m

placed_keeps : (b : Nominal) (xs : List Nominal) (a : Nominal) → Contains xs a → Contains (placed b xs) a
placed_keeps b [] a c = absurd (Contains-none a c)
placed_keeps b (y ∷ xs) a c = go (nat_lt b.number y.number) (Contains-cases y xs a c) (placed_keeps b xs a)
  where
    go : (t : Bool) → (y ≡ a) ⊎ Contains xs a → (Contains xs a → Contains (placed b xs) a) → Contains (cond t (b ∷ y ∷ xs) (y ∷ placed b xs)) a
    go true m rest = Contains-there b (y ∷ xs) a c
    go false (inl e) rest = subst (Contains (y ∷ placed b xs)) e (Contains-here y (placed b xs))
    go false (inr m) rest = Contains-there y (placed b xs) a (rest m)

placed_pairs : (b : Nominal) (xs : List Nominal) → ¬ (Contains xs b) → AllPairs (λ a c. a ≢ c) xs → AllPairs (λ a c. a ≢ c) (placed b xs)
placed_pairs b [] n d = AllPairs-cons (λ a c. a ≢ c) b [] (All-nil (λ c. b ≢ c)) (AllPairs-none (λ a c. a ≢ c))
placed_pairs b (y ∷ xs) n d = go (nat_lt b.number y.number) (placed_pairs b xs (λ m. n (Contains-there y xs b m)) parts.1)
  where
    parts : All (λ c. y ≢ c) xs × AllPairs (λ a c. a ≢ c) xs
    parts = AllPairs-parts (λ a c. a ≢ c) y xs d

    go : (t : Bool) → AllPairs (λ a c. a ≢ c) (placed b xs) → AllPairs (λ a c. a ≢ c) (cond t (b ∷ y ∷ xs) (y ∷ placed b xs))
    go true rest = AllPairs-cons (λ a c. a ≢ c) b (y ∷ xs) (All-from_contains (λ c. b ≢ c) (y ∷ xs) (λ c m e. n (subst (Contains (y ∷ xs)) (sym e) m))) d
    go false rest = AllPairs-cons (λ a c. a ≢ c) y (placed b xs)
        (All-from_contains (λ c. y ≢ c) (placed b xs) (λ c m e. either (λ q. n (subst (Contains (y ∷ xs)) (e ∙ sym q) (Contains-here y xs))) (λ k. All-contains (λ c. y ≢ c) xs c parts.0 k e) (placed_cases b xs c m))) rest

pub ordered_contains : (xs : List Nominal) (a : Nominal) → Contains xs a → Contains (in_order xs) a
ordered_contains [] a c = c
ordered_contains (b ∷ xs) a c = go (is_in xs b) refl (Contains-cases b xs a c) (ordered_contains xs)
  where
    go : (t : Bool) → is_in xs b ≡ t → (b ≡ a) ⊎ Contains xs a → ((z : Nominal) → Contains xs z → Contains (in_order xs) z) → Contains (cond t (in_order xs) (placed b (in_order xs))) a
    go true e (inl q) rest = rest a (subst (Contains xs) q (in_contains xs b e))
    go true e (inr m) rest = rest a m
    go false e (inl q) rest = subst (Contains (placed b (in_order xs))) q (placed_itself b (in_order xs))
    go false e (inr m) rest = placed_keeps b (in_order xs) a (rest a m)

pub contains_ordered : (xs : List Nominal) (a : Nominal) → Contains (in_order xs) a → Contains xs a
contains_ordered [] a c = c
contains_ordered (b ∷ xs) a c = go (is_in xs b) c (contains_ordered xs a)
  where
    go : (t : Bool) → Contains (cond t (in_order xs) (placed b (in_order xs))) a → (Contains (in_order xs) a → Contains xs a) → Contains (b ∷ xs) a
    go true m rest = Contains-there b xs a (rest m)
    go false m rest = either (λ q. subst (Contains (b ∷ xs)) q (Contains-here b xs)) (λ k. Contains-there b xs a (rest k)) (placed_cases b (in_order xs) a m)

pub ordered_pairs : (xs : List Nominal) → AllPairs (λ a c. a ≢ c) (in_order xs)
ordered_pairs [] = AllPairs-none (λ a c. a ≢ c)
ordered_pairs (b ∷ xs) = go (is_in xs b) refl (ordered_pairs xs)
  where
    go : (t : Bool) → is_in xs b ≡ t → AllPairs (λ a c. a ≢ c) (in_order xs) → AllPairs (λ a c. a ≢ c) (cond t (in_order xs) (placed b (in_order xs)))
    go true e rest = rest
    go false e rest = placed_pairs b (in_order xs) (λ m. false≢true (sym e ∙ contains_in xs b (contains_ordered xs b m))) rest

-- a list that is put together of several
pub gathered : {X Y : Type 0} (f : X → List Y) (xs : List X) (a : X) (b : Y) → Contains xs a → Contains (f a) b → Contains (for_each f xs) b
gathered f [] a b c d = absurd (Contains-none a c)
gathered f (x ∷ xs) a b c d = either (λ e. Contains-append_left (f x) (for_each f xs) b (subst (λ z. Contains (f z) b) (sym e) d)) (λ m. Contains-append_right (f x) (for_each f xs) b (gathered f xs a b m d)) (Contains-cases x xs a c)

pub gathered_from : {X Y : Type 0} (f : X → List Y) (xs : List X) (b : Y) → Contains (for_each f xs) b → (a : X) × Contains xs a × Contains (f a) b
gathered_from f [] b c = absurd (Contains-none b c)
gathered_from f (x ∷ xs) b c = either (λ m. (x, Contains-here x xs, m)) (λ m. let r = gathered_from f xs b m in (r.0, Contains-there x xs r.0 r.1, r.2)) (Contains-append_cases (f x) (for_each f xs) b c)
