-- What is in an ordered set, and what is when one more is put in.
use Rattle.std.proofs.Common.{◌≡◌, ◌⊎◌, inl, inr, List, [], ◌∷◌, Bool, true, Contains, refl, sym, ap, ◌∙◌, subst, Ordering, Less, Equal, Greater}
use Rattle.std.specs.BTreeSet.{insert_key}
use Rattle.std.specs.List.{list_any, All}
use Rattle.std.specs.Ordering.{match_ordering, ordering_then, nat_cmp, eq_by_cmp}
use Rattle.std.proofs.lemmas.Map.Lookups.{CmpEqualImpliesEq, exact_unsigned}
use Rattle.std.proofs.lemmas.Map.Views.{Contains-from_any, tells_apart}
use Rattle.ab_term.proofs.Lists.{Contains-here, Contains-there, Contains-cases, All-from_contains}
use Rattle.std.proofs.lemmas.List.Elements.{All-contains}
use Rattle.ab_store.specs.declared.node.TermId.{TermId}
use Rattle.ab_typing.specs.declared.judged_terms.Spot.{Spot}

-- the second holds nothing but what the first holds, and the one
abbrev pub GainsOnly : {X : Type 0} → List X → X → List X → Type 0
GainsOnly {X} old one new = (x : X) → Contains new x → Contains old x ⊎ (x ≡ one)

module _ {X : Type 0} (cmp : X → X → Ordering) (exact : CmpEqualImpliesEq cmp) where
  was_in : (ks : List X) (k a : X) → Contains (insert_key cmp ks k) a → Contains ks a ⊎ (a ≡ k)
  was_in [] k a c = go (Contains-cases k [] a c)
    where
      go : (k ≡ a) ⊎ Contains [] a → Contains [] a ⊎ (a ≡ k)
      go (inl e) = inr (sym e)
      go (inr none) = inl none
  was_in (x ∷ xs) k a c = go (cmp k x) (was_in xs k a) c
    where
      first : (k ≡ a) ⊎ Contains (x ∷ xs) a → Contains (x ∷ xs) a ⊎ (a ≡ k)
      first (inl e) = inr (sym e)
      first (inr d) = inl d

      later_on : (Contains (insert_key cmp xs k) a → Contains xs a ⊎ (a ≡ k)) → (x ≡ a) ⊎ Contains (insert_key cmp xs k) a → Contains (x ∷ xs) a ⊎ (a ≡ k)
      later_on later (inl e) = inl (subst (Contains (x ∷ xs)) e (Contains-here x xs))
      later_on later (inr d) = on (later d)
        where
          on : Contains xs a ⊎ (a ≡ k) → Contains (x ∷ xs) a ⊎ (a ≡ k)
          on (inl l) = inl (Contains-there x xs a l)
          on (inr e) = inr e

      go : (o : Ordering) → (Contains (insert_key cmp xs k) a → Contains xs a ⊎ (a ≡ k)) → Contains (match_ordering o (k ∷ x ∷ xs) (x ∷ xs) (x ∷ insert_key cmp xs k)) a → Contains (x ∷ xs) a ⊎ (a ≡ k)
      go Less later d = first (Contains-cases k (x ∷ xs) a d)
      go Equal later d = inl d
      go Greater later d = later_on later (Contains-cases x (insert_key cmp xs k) a d)

  pub gains_only : (ks new : List X) (k : X) → new ≡ insert_key cmp ks k → GainsOnly ks k new
  gains_only ks new k e x c = was_in ks k x (subst (λ l. Contains l x) e c)

  pub is_in : (ks : List X) (k : X) (r : Bool) → r ≡ list_any (eq_by_cmp cmp k) ks → r ≡ true → Contains ks k
  is_in ks k r e h = Contains-from_any (tells_apart exact) k ks (sym e ∙ h)

-- what holds of each still does
pub all_gained : {X : Type 0} (P : X → Type 0) (ks new : List X) (k : X) → GainsOnly ks k new → All P ks → P k → All P new
all_gained {X} P ks new k gains all one = All-from_contains P new (λ a c. go a (gains a c))
  where
    go : (a : X) → Contains ks a ⊎ (a ≡ k) → P a
    go a (inl c) = All-contains P ks a all c
    go a (inr e) = subst P (sym e) one

-- the orders of ids

abbrev pub term_cmp : TermId → TermId → Ordering
term_cmp a b = nat_cmp a.0 b.0

pub one_term : CmpEqualImpliesEq term_cmp
one_term a b e = ap (λ n. record { 0 = n }) (exact_unsigned a.0 b.0 e)

abbrev pub spot_cmp : Spot → Spot → Ordering
spot_cmp a b = ordering_then (nat_cmp a.id.0 b.id.0) (nat_cmp a.inner b.inner)

pub one_spot : CmpEqualImpliesEq spot_cmp
one_spot a b e = go (nat_cmp a.id.0 b.id.0) refl e
  where
    go : (o : Ordering) → nat_cmp a.id.0 b.id.0 ≡ o → ordering_then o (nat_cmp a.inner b.inner) ≡ Equal → a ≡ b
    go Less p q = absurd (cc)
    go Greater p q = absurd (cc)
    go Equal p q =
        let term : a.id ≡ b.id = one_term a.id b.id p in
        let deep : a.inner ≡ b.inner = exact_unsigned a.inner b.inner q in
        ap (λ t. record { id = t; inner = a.inner }) term ∙ ap (λ n. record { id = b.id; inner = n }) deep
