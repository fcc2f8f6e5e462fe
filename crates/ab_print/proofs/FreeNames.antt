-- The name that is chosen is free, and a longer search finds no other.
use Rattle.std.proofs.Common.{◌≡◌, ℕ, zero, suc, ◌+◌, ◌-◌, ◌^◌, ◌≤◌, ◌<◌, length, List, ◌∷◌, ◌++◌, Bool, true, false, ◌⊎◌, inl, inr, Contains, decimal, refl, sym, ◌∙◌, ap, subst, arith, length-append}
use Rattle.std.specs.Prelude.{if◌then◌else◌}
use Rattle.std.proofs.lemmas.Fmt.{decimal_injective}
use Rattle.std.proofs.lemmas.Bool.{cases_lt}
use Rattle.std.proofs.lemmas.List.{append_cancel_left}
use Rattle.ab_print.specs.PrintedNames.{is_in, first_from, stem, numbered, fresh}
use Rattle.ab_print.proofs.Membership.{split, in_rest, is_in-true, true-is_in}

-- as many different things as the first number says, from n on, are at most as many as the list that holds them has
holes : {X : Type 0} (f : ℕ → X) (n : ℕ) → (most : ℕ) (xs : List X)
    → ((i j : ℕ) → i < n + most → j < n + most → f i ≡ f j → i ≡ j)
    → ((i : ℕ) → n ≤ i → i < n + most → Contains xs (f i)) → most ≤ length xs
holes f n zero xs one all = omega arith
holes f n (suc most) xs one all =
    let r = split xs (f (n + most)) (all (n + most) (omega arith) (omega arith)) in
    let fewer : most ≤ length (r.0 ++ r.1) = holes f n most (r.0 ++ r.1) (λ i j a b. one i j (omega arith) (omega arith))
    (λ i low high. in_rest r.0 (f (n + most)) r.1 (f i) (λ e. let same : n + most ≡ i = one (n + most) i (omega arith) (omega arith) e in absurd (omega arith))
    (subst (λ w. Contains w (f i)) r.2 (all i low (omega arith)))) in
    let size : length xs ≡ length (r.0 ++ f (n + most) ∷ r.1) = ap length r.2 in
    omega (arith, fewer, size, length-append r.0 r.1, length-append r.0 (f (n + most) ∷ r.1))

-- r is the first number from n on whose test fails
record IsFirst (test : ℕ → Bool) (n r : ℕ) : Type 0 where
  from : n ≤ r
  fails : test r ≡ false
  before : (i : ℕ) → n ≤ i → i < r → test i ≡ true

-- a search that ends too early has seen nothing but what passes
record Passes (test : ℕ → Bool) (n most : ℕ) : Type 0 where
  end : first_from test most n ≡ n + most
  all : (i : ℕ) → n ≤ i → i < n + most → test i ≡ true

abbrev Found : (ℕ → Bool) → ℕ → ℕ → Type 0
Found test most n = ((first_from test most n < n + most) × IsFirst test n (first_from test most n)) ⊎ Passes test n most

by_test : (test : ℕ → Bool) (most n : ℕ) (b : Bool) → test n ≡ b → Found test most (n + 1) → Found test (suc most) n
by_test test most n true e (inl (low, f)) =
    let same : first_from test (suc most) n ≡ first_from test most (n + 1) = ap (λ (b : Bool). if b then (first_from test most (n + 1)) else n) e in
    let from : n + 1 ≤ first_from test most (n + 1) = f.from in
    inl (
      omega arith,
      record {
        from = omega arith;
        fails = ap test same ∙ f.fails;
        before = λ i a b. elim (cases_lt n i) [ inl later ↦ f.before i (omega arith) (omega arith) | inr other ↦ (let here : n ≡ i = omega arith in ap test (sym here) ∙ e) ];
      },
    )
by_test test most n true e (inr p) =
    let same : first_from test (suc most) n ≡ first_from test most (n + 1) = ap (λ (b : Bool). if b then (first_from test most (n + 1)) else n) e in
    let end : first_from test most (n + 1) ≡ n + 1 + most = p.end in
    inr record {
      end = omega arith;
      all = λ i a b. elim (cases_lt n i) [ inl later ↦ p.all i (omega arith) (omega arith) | inr other ↦ (let here : n ≡ i = omega arith in ap test (sym here) ∙ e) ];
    }
by_test test most n false e r =
    let same : first_from test (suc most) n ≡ n = ap (λ (b : Bool). if b then (first_from test most (n + 1)) else n) e in
    inl (omega arith, record { from = omega arith; fails = ap test same ∙ e; before = λ i a b. absurd (omega arith) })

searched : (test : ℕ → Bool) (most n : ℕ) → Found test most n
searched test zero n = inr record { end = omega arith; all = λ i a b. absurd (omega arith) }
searched test (suc most) n = by_test test most n (test n) refl (searched test most (n + 1))

not_both : (b : Bool) → b ≡ true → b ≡ false → ⊥
not_both b t f = cc

reached_by : (test : ℕ → Bool) (most n r : ℕ) (b : Bool) → test n ≡ b → IsFirst test n r → r ≤ n + suc most → ((r ≤ n + 1 + most) → IsFirst test (n + 1) r → first_from test most (n + 1) ≡ r) → first_from test (suc most) n ≡ r
reached_by test most n r true e f h later =
    let from : n ≤ r = f.from in
    let other : n ≡ r → ⊥ = λ same. not_both (test n) e (ap test same ∙ f.fails) in
    let above : n < r = elim (cases_lt n r) [ inl a ↦ a | inr b ↦ (let same : n ≡ r = omega arith in absurd (other same)) ] in
    ap (λ (b : Bool). if b then (first_from test most (n + 1)) else n) e
    ∙ later (omega arith) record { from = omega arith; fails = f.fails; before = λ i a b. f.before i (omega arith) b }
reached_by test most n r false e f h later =
    let from : n ≤ r = f.from in
    let not_above : n < r → ⊥ = λ a. not_both (test n) (f.before n (omega arith) a) e in
    let same : n ≡ r = elim (cases_lt n r) [ inl a ↦ absurd (not_above a) | inr b ↦ omega arith ] in
    ap (λ (b : Bool). if b then (first_from test most (n + 1)) else n) e ∙ same

reaches : (test : ℕ → Bool) (most n r : ℕ) → IsFirst test n r → r ≤ n + most → first_from test most n ≡ r
reaches test zero n r f h = let from : n ≤ r = f.from in omega arith
reaches test (suc most) n r f h = reached_by test most n r (test n) refl f h (λ low g. reaches test most (n + 1) r g low)

-- numbers make different names of one stem
numbers_differ : (x : List ℕ) (i j : ℕ) → i < 2 ^ 64 → j < 2 ^ 64 → numbered x i ≡ numbered x j → i ≡ j
numbers_differ x i j a b e = decimal_injective i j a b (append_cancel_left (stem x) (decimal i) (decimal j) e)

abbrev taken : List (List ℕ) → List ℕ → ℕ → Bool
taken used x n = is_in used (numbered x n)

-- as many numbers from 1 on as are taken, are at most as many as the names that are used
few_taken : (used : List (List ℕ)) (x : List ℕ) (most : ℕ) → most < 2 ^ 64 - 1 → ((i : ℕ) → 1 ≤ i → i < 1 + most → taken used x i ≡ true) → most ≤ length used
few_taken used x most small all = holes (numbered x) 1 most used
    (λ i j a b e. numbers_differ x i j (omega arith) (omega arith) e)
    (λ i a b. is_in-true used (numbered x i) (all i a b))

by_last : (used : List (List ℕ)) (x : List ℕ) (b : Bool) → length used + 1 < 2 ^ 64 - 1 → Passes (taken used x) 1 (length used) → taken used x (1 + length used) ≡ b
    → IsFirst (taken used x) 1 (first_from (taken used x) (length used) 1)
by_last used x true small p e = absurd (let low : length used + 1 ≤ length used = few_taken used x (length used + 1) small
    (λ i a b. elim (cases_lt i (1 + length used)) [ inl below ↦ p.all i a below | inr other ↦ (let same : 1 + length used ≡ i = omega arith in ap (taken used x) (sym same) ∙ e) ]) in
    omega arith)
by_last used x false small p e =
    let end : first_from (taken used x) (length used) 1 ≡ 1 + length used = p.end in
    record { from = omega arith; fails = ap (taken used x) end ∙ e; before = λ i a b. p.all i a (omega arith) }

first_is : (used : List (List ℕ)) (x : List ℕ) → length used + 1 < 2 ^ 64 - 1 → IsFirst (taken used x) 1 (first_from (taken used x) (length used) 1)
first_is used x small = elim (searched (taken used x) (length used) 1) [ inl f ↦ f.1 | inr p ↦ by_last used x (taken used x (1 + length used)) small p refl ]

first_low : (used : List (List ℕ)) (x : List ℕ) → first_from (taken used x) (length used) 1 ≤ 1 + length used
first_low used x = elim (searched (taken used x) (length used) 1) [ inl f ↦ (let low : first_from (taken used x) (length used) 1 < 1 + length used = f.0 in omega arith) | inr p ↦ (let end : first_from (taken used x) (length used) 1 ≡ 1 + length used = p.end in omega arith) ]

free_by : (used : List (List ℕ)) (x : List ℕ) (b : Bool) → length used + 1 < 2 ^ 64 - 1 → is_in used x ≡ b → is_in used (fresh used x) ≡ false
free_by used x true small e = ap (λ (b : Bool). is_in used (if b then (numbered x (first_from (taken used x) (length used) 1)) else x)) e ∙ (first_is used x small).fails
free_by used x false small e = ap (λ (b : Bool). is_in used (if b then (numbered x (first_from (taken used x) (length used) 1)) else x)) e ∙ e

-- the name that is chosen isn't used
pub fresh_is_free : (used : List (List ℕ)) (x : List ℕ) → length used + 1 < 2 ^ 64 - 1 → Contains used (fresh used x) → ⊥
fresh_is_free used x small h = not_both (is_in used (fresh used x)) (true-is_in used (fresh used x) h) (free_by used x (is_in used x) small refl)

-- and a search that may go on for longer finds no other number
pub first_free-longer : (used : List (List ℕ)) (x : List ℕ) (most : ℕ) → length used + 1 < 2 ^ 64 - 1 → length used ≤ most
    → first_from (λ n. is_in used (numbered x n)) most 1 ≡ first_from (λ n. is_in used (numbered x n)) (length used) 1
first_free-longer used x most small more =
    let low : first_from (taken used x) (length used) 1 ≤ 1 + length used = first_low used x in
    reaches (taken used x) most 1 (first_from (taken used x) (length used) 1) (first_is used x small) (omega arith)
