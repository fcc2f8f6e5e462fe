-- The constants of an atom stand in order of number, and a new constant has the least number that is free.
use Rattle.std.proofs.Common.{◌≡◌, ◌⊎◌, inl, inr, ℕ, zero, suc, ◌<◌, ◌≤◌, List, [], ◌∷◌, length, Bool, true, false, cond, refl, sym, ◌∙◌, ap, arith}
use Rattle.std.specs.Prelude.{All, AllPairs, nat_lt}
use Rattle.std.proofs.lemmas.Bool.{ltb-true, ltb-false}
use Rattle.std.proofs.lemmas.List.Elements.{All-nil, All-contains}
use Rattle.std.proofs.lemmas.List.Kept.{AllPairs-cons}
use Rattle.ab_term.specs.Types.{Ty}
use Rattle.ab_term.specs.Terms.{Nominal}
use Rattle.ab_term.proofs.Lists.{Contains-cases, AllPairs-none, AllPairs-parts, All-from_contains}
use Rattle.ab_unifiers.specs.Choices.{is_in, placed, in_order, is_number_of, free_number, new_constant}
use Rattle.ab_unifiers.proofs.Constants.{either}
use Rattle.ab_unifiers.proofs.Choosing.{placed_cases}

abbrev pub Before : Nominal → Nominal → Type 0
Before a b = a.number ≤ b.number

placed_sorted : (a : Nominal) (xs : List Nominal) → AllPairs Before xs → AllPairs Before (placed a xs)
placed_sorted a [] s = AllPairs-cons Before a [] (All-nil (Before a)) (AllPairs-none Before)
placed_sorted a (b ∷ xs) s = go (nat_lt a.number b.number) refl (placed_sorted a xs parts.1)
  where
    parts : All (Before b) xs × AllPairs Before xs
    parts = AllPairs-parts Before b xs s

    go : (t : Bool) → nat_lt a.number b.number ≡ t → AllPairs Before (placed a xs) → AllPairs Before (cond t (a ∷ b ∷ xs) (b ∷ placed a xs))
    go true e rest =
        let low : a.number < b.number = ltb-true a.number b.number e in
        AllPairs-cons Before a (b ∷ xs) (All-from_contains (Before a) (b ∷ xs) (λ c m. either (λ q. let same : b.number ≡ c.number = ap (λ z. z.number) q in omega (arith, low, same)) (λ k. let next : b.number ≤ c.number = All-contains (Before b) xs c parts.0 k in omega (arith, low, next)) (Contains-cases b xs c m))) s
    go false e rest =
        let low : b.number ≤ a.number = ltb-false a.number b.number e in
        AllPairs-cons Before b (placed a xs) (All-from_contains (Before b) (placed a xs) (λ c m. either (λ q. let same : a.number ≡ c.number = ap (λ z. z.number) q in omega (arith, low, same)) (λ k. All-contains (Before b) xs c parts.0 k) (placed_cases a xs c m))) rest

pub ordered_sorted : (xs : List Nominal) → AllPairs Before (in_order xs)
ordered_sorted [] = AllPairs-none Before
ordered_sorted (a ∷ xs) = go (is_in xs a) (ordered_sorted xs)
  where
    go : (t : Bool) → AllPairs Before (in_order xs) → AllPairs Before (cond t (in_order xs) (placed a (in_order xs)))
    go true rest = rest
    go false rest = placed_sorted a (in_order xs) rest

here_or_later : (n i : ℕ) → n ≤ i → (n ≡ i) ⊎ (suc n ≤ i)
here_or_later zero zero l = inl refl
here_or_later zero (suc i) l = inr (omega arith)
here_or_later (suc n) zero l = absurd (omega (arith, l))
here_or_later (suc n) (suc i) l = either (λ e. inl (ap suc e)) (λ m. inr (omega (arith, m))) (here_or_later n i (omega (arith, l)))

all_held : (k n : ℕ) (xs : List Nominal) (i : ℕ) → n ≤ i → i < free_number k n xs → is_number_of xs i ≡ true
all_held zero n xs i low high = absurd (omega (arith, low, high))
all_held (suc k) n xs i low high = go (is_number_of xs n) refl high (λ l h. all_held k (suc n) xs i l h)
  where
    go : (t : Bool) → is_number_of xs n ≡ t → i < cond t (free_number k (suc n) xs) n → (suc n ≤ i → i < free_number k (suc n) xs → is_number_of xs i ≡ true) → is_number_of xs i ≡ true
    go true e h rest = either (λ q. ap (is_number_of xs) (sym q) ∙ e) (λ l. rest l h) (here_or_later n i low)
    go false e h rest = absurd (omega (arith, low, h))

-- each number from 1 on below that of a new constant stands among those that are held
pub new_is_least : (held : List Nominal) (A : Ty) (i : ℕ) → 1 ≤ i → i < (new_constant held A).number → is_number_of held i ≡ true
new_is_least held A i low high = all_held (length held) 1 held i low high
