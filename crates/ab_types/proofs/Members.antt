-- What a list contains, and what a hash set's or a map's test for it says.
use Rattle.std.proofs.Common.{◌≡◌, ℕ, zero, suc, ◌+◌, ◌<◌, ◌⊎◌, inl, inr, Bool, true, false, cond, not, ◌||◌, List, [], ◌∷◌, ◌++◌, length, get_or, nat_eq, Contains, slice_get, Option, Some, None, Result, Ok, Err, OnErr, is_some, refl, sym, ◌∙◌, ap, subst, arith, true≢false, length-append, one-add, if◌then◌else◌}
use Rattle.std.specs.List.{list_any, position_or_len}
use Rattle.std.specs.Map.{keys_of}
use Rattle.std.specs.Cmp.{IsEquivalence}
use Rattle.std.specs.Cmp.Lexicographic.{pointwise, bytes_decides, nat_list_eq_equiv}
use Rattle.std.proofs.lemmas.Map.Views.{list_any-from_Contains}
use Rattle.std.proofs.lemmas.Map.Made.{is_some-lookup}
use Rattle.indexmap.specs.IndexMap.{IndexMap, get, insert_entry}
use Rattle.indexmap.proofs.CallerLemmas.{Contains-list_any, insert_entry-new}
use Rattle.indexmap.specs.IndexSet.{insert_key}
use Rattle.ab_term.proofs.Lists.{Contains-none, Contains-here, Contains-there, Contains-cases}
use Rattle.ab_types.specs.Sound.{AreDifferent}

module _ {X : Type 0} where
  pub Contains-left : (xs ys : List X) (a : X) → Contains xs a → Contains (xs ++ ys) a
  Contains-left [] ys a c = absurd (Contains-none a c)
  Contains-left (x ∷ xs) ys a c = go (Contains-left xs ys a) (Contains-cases x xs a c)
    where
      go : (Contains xs a → Contains (xs ++ ys) a) → (x ≡ a) ⊎ Contains xs a → Contains (x ∷ (xs ++ ys)) a
      go later (inl e) = subst (Contains (x ∷ (xs ++ ys))) e (Contains-here x (xs ++ ys))
      go later (inr rest) = Contains-there x (xs ++ ys) a (later rest)

  pub at_push : (xs : List X) (x : X) → slice_get (xs ++ x ∷ []) (length xs) ≡ Some x
  at_push [] x = refl
  at_push (y ∷ xs) x = at_push xs x

  pub at_before : (xs : List X) (x : X) (i : ℕ) → i < length xs → slice_get (xs ++ x ∷ []) i ≡ slice_get xs i
  at_before [] x i h = absurd (omega arith)
  at_before (y ∷ xs) x zero h = refl
  at_before (y ∷ xs) x (suc i) h = at_before xs x i (omega arith)

  pub contained : (xs : List X) (i : ℕ) (x : X) → slice_get xs i ≡ Some x → Contains xs x
  contained [] i x e = absurd (cc)
  contained (y ∷ xs) zero x e = subst (Contains (y ∷ xs)) (some_inj e) (Contains-here y xs)
    where
      some_inj : Some y ≡ Some x → y ≡ x
      some_inj p = cc
  contained (y ∷ xs) (suc i) x e = Contains-there y xs x (contained xs i x e)

  pub place_in : (xs : List X) (x : X) → Contains xs x → (i : ℕ) × (i < length xs) × (slice_get xs i ≡ Some x)
  place_in [] x c = absurd (Contains-none x c)
  place_in (y ∷ xs) x c = go (place_in xs x) (Contains-cases y xs x c)
    where
      go : (Contains xs x → (i : ℕ) × (i < length xs) × (slice_get xs i ≡ Some x)) → (y ≡ x) ⊎ Contains xs x → (i : ℕ) × (i < length (y ∷ xs)) × (slice_get (y ∷ xs) i ≡ Some x)
      go later (inl e) = (0, omega arith, ap Some e)
      go later (inr rest) = let p = later rest in (suc p.0, omega (arith, p.1), p.2)

  -- what is new may be added
  pub different_push : (xs : List X) (x : X) → (Contains xs x → ⊥) → AreDifferent xs → AreDifferent (xs ++ x ∷ [])
  different_push xs x new ok i j hi hj e = go (within i hi) (within j hj)
    where
      within : (k : ℕ) → k < length (xs ++ x ∷ []) → (k < length xs) ⊎ (k ≡ length xs)
      within k h = cases_at k (length xs) (omega (arith, length-append xs (x ∷ [])))
        where
          cases_at : (a n : ℕ) → a < n + 1 → (a < n) ⊎ (a ≡ n)
          cases_at zero zero p = inr refl
          cases_at zero (suc n) p = inl (omega arith)
          cases_at (suc a) zero p = absurd (omega arith)
          cases_at (suc a) (suc n) p = up (cases_at a n (omega arith))
            where
              up : (a < n) ⊎ (a ≡ n) → (suc a < suc n) ⊎ (suc a ≡ suc n)
              up (inl q) = inl (omega arith)
              up (inr q) = inr (ap suc q)

      go : (i < length xs) ⊎ (i ≡ length xs) → (j < length xs) ⊎ (j ≡ length xs) → i ≡ j
      go (inl a) (inl b) = ok i j a b (sym (at_before xs x i a) ∙ e ∙ at_before xs x j b)
      go (inl a) (inr b) = absurd (new (contained xs i x (sym (at_before xs x i a) ∙ e ∙ ap (slice_get (xs ++ x ∷ [])) b ∙ at_push xs x)))
      go (inr a) (inl b) = absurd (new (contained xs j x (sym (at_before xs x j b) ∙ sym e ∙ ap (slice_get (xs ++ x ∷ [])) a ∙ at_push xs x)))
      go (inr a) (inr b) = a ∙ sym b

  -- pairwise different elements, said by cases
  abbrev pub IsApart : X → List X → Type 0
  IsApart x [] = Unit {0}
  IsApart x (y ∷ ys) = (y ≡ x → ⊥) × IsApart x ys

  abbrev pub AreApart : List X → Type 0
  AreApart [] = Unit {0}
  AreApart (x ∷ xs) = IsApart x xs × AreApart xs

  apart_absent : (x : X) (ys : List X) → IsApart x ys → Contains ys x → ⊥
  apart_absent x [] apart c = Contains-none x c
  apart_absent x (y ∷ ys) apart c = go (apart_absent x ys apart.1) (Contains-cases y ys x c)
    where
      go : (Contains ys x → ⊥) → (y ≡ x) ⊎ Contains ys x → ⊥
      go rest (inl e) = apart.0 e
      go rest (inr m) = rest m

  pub different_list : (xs : List X) → AreApart xs → AreDifferent xs
  different_list [] apart i j hi hj e = absurd (omega arith)
  different_list (x ∷ xs) apart zero zero hi hj e = refl
  different_list (x ∷ xs) apart zero (suc j) hi hj e = absurd (apart_absent x xs apart.0 (contained xs j x (sym e)))
  different_list (x ∷ xs) apart (suc i) zero hi hj e = absurd (apart_absent x xs apart.0 (contained xs i x e))
  different_list (x ∷ xs) apart (suc i) (suc j) hi hj e = ap suc (different_list xs apart.1 i j (omega arith) (omega arith) e)

  -- the front of different elements
  pub different_front : (xs ys : List X) → AreDifferent (xs ++ ys) → AreDifferent xs
  different_front xs ys ok i j hi hj e =
      ok i j (omega (arith, length-append xs ys)) (omega (arith, length-append xs ys)) (front xs i hi ∙ e ∙ sym (front xs j hj))
    where
      front : (zs : List X) (k : ℕ) → k < length zs → slice_get (zs ++ ys) k ≡ slice_get zs k
      front [] k h = absurd (omega arith)
      front (z ∷ zs) zero h = refl
      front (z ∷ zs) (suc k) h = front zs k (omega arith)

  -- one that the list has stands at one place alone
  pub one_place : (xs : List X) (i j : ℕ) (d : X) → AreDifferent xs → i < length xs → j < length xs → get_or xs i d ≡ get_or xs j d → i ≡ j
  one_place xs i j d ok hi hj e = ok i j hi hj (is xs i hi ∙ ap Some e ∙ sym (is xs j hj))
    where
      is : (zs : List X) (k : ℕ) → k < length zs → slice_get zs k ≡ Some (get_or zs k d)
      is [] k h = absurd (omega arith)
      is (z ∷ zs) zero h = refl
      is (z ∷ zs) (suc k) h = is zs k (omega arith)

pub on_err : {A E : Type 0} (r : Result A E) {P : Type 0} → P → OnErr r P
on_err (Ok a) p = tt
on_err (Err e) p = p

-- a set's test
module _ {X : Type 0} (eq : X → X → Bool) where
  pub insert_key-new : (ks : List X) (k : X) → list_any (eq k) ks ≡ false → insert_key eq ks k ≡ ks ++ k ∷ []
  insert_key-new ks k e = ap (λ b. if b then ks else ks ++ k ∷ []) e

  pub first_place-new : (ks : List X) (k : X) → list_any (eq k) ks ≡ false → position_or_len (eq k) ks ≡ length ks
  first_place-new [] k e = refl
  first_place-new (x ∷ xs) k e = go (eq k x) refl (first_place-new xs k)
    where
      go : (b : Bool) → eq k x ≡ b → (list_any (eq k) xs ≡ false → position_or_len (eq k) xs ≡ length xs) → position_or_len (eq k) (x ∷ xs) ≡ length (x ∷ xs)
      go true p rest = absurd (true≢false (sym (ap (λ b. b || list_any (eq k) xs) p) ∙ e))
      go false p rest =
          let later : list_any (eq k) xs ≡ false = sym (ap (λ b. b || list_any (eq k) xs) p) ∙ e in
          let there : position_or_len (eq k) xs ≡ length xs = rest later in
          ap (λ b. cond (not b) (1 + position_or_len (eq k) xs) 0) p ∙ ap (λ n. 1 + n) there ∙ one-add (length xs)

  module _ (laws : IsEquivalence eq) where
    pub not_in : (ks : List X) (k : X) → list_any (eq k) ks ≡ false → Contains ks k → ⊥
    not_in ks k e c = true≢false (sym (list_any-from_Contains laws k ks c) ∙ e)

-- names
abbrev pub name_test : List ℕ → List ℕ → Bool
name_test = pointwise nat_eq

pub same_name : (k l : List ℕ) → pointwise nat_eq k l ≡ true → k ≡ l
same_name k l = (bytes_decides k l).0

pub name_in : (ks : List (List ℕ)) (k : List ℕ) → list_any (pointwise nat_eq k) ks ≡ true → Contains ks k
name_in = Contains-list_any (pointwise nat_eq) same_name

pub name_not_in : (ks : List (List ℕ)) (k : List ℕ) → list_any (pointwise nat_eq k) ks ≡ false → Contains ks k → ⊥
name_not_in = not_in (pointwise nat_eq) nat_list_eq_equiv

pub no_name : (ks : List (List ℕ)) (k : List ℕ) → (Contains ks k → ⊥) → list_any (pointwise nat_eq k) ks ≡ false
no_name ks k new = go (list_any (pointwise nat_eq k) ks) refl
  where
    go : (b : Bool) → list_any (pointwise nat_eq k) ks ≡ b → list_any (pointwise nat_eq k) ks ≡ false
    go true e = absurd (new (name_in ks k e))
    go false e = e

pub insert_name-new : (ks : List (List ℕ)) (k : List ℕ) → list_any (pointwise nat_eq k) ks ≡ false → insert_key (pointwise nat_eq) ks k ≡ ks ++ k ∷ []
insert_name-new = insert_key-new (pointwise nat_eq)

pub first_name-new : (ks : List (List ℕ)) (k : List ℕ) → list_any (pointwise nat_eq k) ks ≡ false → position_or_len (pointwise nat_eq k) ks ≡ length ks
first_name-new = first_place-new (pointwise nat_eq)

-- a map's test is that of its keys
module _ {V S : Type 0} (m : IndexMap (List ℕ) V S) (k : List ℕ) where
  pub key_in : is_some (get (pointwise nat_eq) m k) ≡ true → Contains (keys_of m.entries) k
  key_in e = name_in (keys_of m.entries) k (sym (is_some-lookup (pointwise nat_eq k) m.entries) ∙ e)

  pub key_not_in : is_some (get (pointwise nat_eq) m k) ≡ false → Contains (keys_of m.entries) k → ⊥
  key_not_in e = name_not_in (keys_of m.entries) k (sym (is_some-lookup (pointwise nat_eq k) m.entries) ∙ e)

  pub insert_entry-behind : (v : V) → (Contains (keys_of m.entries) k → ⊥) → insert_entry (pointwise nat_eq) m.entries k v ≡ m.entries ++ (k, v) ∷ []
  insert_entry-behind v new = insert_entry-new (pointwise nat_eq) m k v (none (get (pointwise nat_eq) m k) (is_some-lookup (pointwise nat_eq k) m.entries ∙ no_name (keys_of m.entries) k new))
    where
      none : (o : Option V) → is_some o ≡ false → o ≡ None
      none None e = refl
      none (Some w) e = absurd (true≢false e)
