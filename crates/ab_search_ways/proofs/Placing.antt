-- A constant is put in its place by number.
use Rattle.std.proofs.Common.{◌≡◌, ◌≢◌, inl, inr, ℕ, zero, suc, ◌<◌, ◌≤◌, List, [], ◌∷◌, ◌++◌, take, drop, length, get_or, Bool, true, false, cond, refl, sym, ◌∙◌, ap, subst, arith}
use Rattle.std.proofs.lemmas.List.Elements.{All-nil, All-contains}
use Rattle.std.proofs.lemmas.List.Kept.{AllPairs-cons}
use Rattle.std.specs.Prelude.{nat_lt, All, AllPairs, Contains}
use Rattle.ab_norm.specs.ab_types.specs.Entries.{Table}
use Rattle.ab_norm.specs.declared.nominal.Nominal.{Nominal}
use Rattle.ab_norm.specs.Nominals.{nominal_of}
use Rattle.ab_term.specs.Types.{Ty}
use Rattle.ab_term.specs.Terms.{Nominal as Constant}
use Rattle.ab_term.proofs.Lists.{Contains-here, Contains-there, All-from_contains, AllPairs-none, AllPairs-parts}
use Rattle.ab_unifiers.specs.Choices.{placed, new_constant}
use Rattle.ab_unifiers.proofs.Choosing.{placed_cases}
use Rattle.ab_unifiers.proofs.Matching.{new_is_new}
use Rattle.ab_instances.specs.ListReadings.{names_read}

pub placed_at : (types : Table) (a : Nominal) (xs : List Nominal) (i : ℕ) → i ≤ length xs
    → ((k : ℕ) (d : Nominal) → k < i → nat_lt a.number (get_or xs k d).number ≡ false) → ((d : Nominal) → i < length xs → nat_lt a.number (get_or xs i d).number ≡ true)
    → names_read types (take i xs ++ a ∷ drop i xs) ≡ placed (nominal_of types a) (names_read types xs)
placed_at types a [] zero l before behind = refl
placed_at types a [] (suc i) l before behind = absurd (omega (arith, l))
placed_at types a (b ∷ xs) zero l before behind = rw (behind b (omega arith)) refl
placed_at types a (b ∷ xs) (suc i) l before behind =
    rw (before 0 b (omega arith)) (ap (λ ns. nominal_of types b ∷ ns)
    (placed_at types a xs i (omega (arith, l)) (λ k d m. before (suc k) d (omega (arith, m))) (λ d m. behind d (omega (arith, m)))))

-- and they stay different
pub placed_pairs : (b : Constant) (xs : List Constant) → ¬ (Contains xs b) → AllPairs (λ a c. a ≢ c) xs → AllPairs (λ a c. a ≢ c) (placed b xs)
placed_pairs b [] n d = AllPairs-cons (λ a c. a ≢ c) b [] (All-nil (λ c. b ≢ c)) (AllPairs-none (λ a c. a ≢ c))
placed_pairs b (y ∷ xs) n d = go (nat_lt b.number y.number) (placed_pairs b xs (λ m. n (Contains-there y xs b m)) parts.1)
  where
    parts : All (λ c. y ≢ c) xs × AllPairs (λ a c. a ≢ c) xs
    parts = AllPairs-parts (λ a c. a ≢ c) y xs d

    go : (t : Bool) → AllPairs (λ a c. a ≢ c) (placed b xs) → AllPairs (λ a c. a ≢ c) (cond t (b ∷ y ∷ xs) (y ∷ placed b xs))
    go true rest = AllPairs-cons (λ a c. a ≢ c) b (y ∷ xs) (All-from_contains (λ c. b ≢ c) (y ∷ xs) (λ c m e. n (subst (Contains (y ∷ xs)) (sym e) m))) d
    go false rest = AllPairs-cons (λ a c. a ≢ c) y (placed b xs)
        (All-from_contains (λ c. y ≢ c) (placed b xs) (λ c m e. elim (placed_cases b xs c m) [ inl q ↦ n (subst (Contains (y ∷ xs)) (e ∙ sym q) (Contains-here y xs)) | inr k ↦ All-contains (λ c. y ≢ c) xs c parts.0 k e ])) rest

-- a constant that the others aren't
pub new_pairs : (xs : List Constant) (A : Ty) → AllPairs (λ a c. a ≢ c) xs → AllPairs (λ a c. a ≢ c) (placed (new_constant xs A) xs)
new_pairs xs A d = placed_pairs (new_constant xs A) xs (new_is_new xs A) d
