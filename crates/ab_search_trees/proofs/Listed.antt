-- THE FIRST ANSWERS, and the first equation outside the patterns, by the leaves before them.
use Rattle.std.proofs.Common.{◌≡◌, ◌⊎◌, inl, inr, ℕ, zero, suc, ◌<◌, ◌≤◌, List, [], ◌∷◌, ◌++◌, length, refl, sym, ap, subst, arith}
use Rattle.std.specs.Prelude.{Contains}
use Rattle.ab_term.proofs.Lists.{Contains-none, Contains-cases}
use Rattle.ab_search_trees.specs.Goals.{Now}
use Rattle.ab_search_trees.specs.Tree.{Leaf, found, stuck_at, blind}
use Rattle.ab_search_trees.specs.Outcomes.{Outcome, closed, not_pattern, not_found, outcome_behind, outcome_of, Answers, these, but_for, answer_and, first_answers, answers_in, NoneStuck}
use Rattle.ab_search_trees.proofs.Telling.{found_closed}

abbrev FirstStuck : List Leaf → ℕ → Type 0
FirstStuck ls i = (before : List Leaf) × (after : List Leaf) × (ls ≡ before ++ stuck_at i ∷ after) × ((l : Leaf) → Contains before l → l ≡ blind)

first_stuck : (ls : List Leaf) (i : ℕ) → outcome_of ls ≡ not_pattern i → FirstStuck ls i
first_stuck [] i e = absurd (cc)
first_stuck (found now ∷ ls) i e = absurd (cc)
first_stuck (blind ∷ ls) i e =
    let r = first_stuck ls i e in
    (blind ∷ r.0, r.1, ap (λ k. blind ∷ k) r.2, λ l m. elim (Contains-cases blind r.0 l m) [ inl f ↦ sym f | inr n ↦ r.3 l n ])
first_stuck (stuck_at j ∷ ls) i e = go (outcome_of ls) e
  where
    go : (o : Outcome) → outcome_behind (stuck_at j) o ≡ not_pattern i → FirstStuck (stuck_at j ∷ ls) i
    go closed q = absurd (cc)
    go (not_pattern k) q = let same : j ≡ i = cc in ([], ls, ap (λ n. stuck_at n ∷ ls) same, λ l m. absurd (Contains-none l m))
    go not_found q = let same : j ≡ i = cc in ([], ls, ap (λ n. stuck_at n ∷ ls) same, λ l m. absurd (Contains-none l m))

-- NOT A PATTERN: that equation is the first, and there is no answer
pub pattern_told : (ls : List Leaf) (i : ℕ) → outcome_of ls ≡ not_pattern i → FirstStuck ls i × ((now : Now) → ¬ Contains ls (found now))
pattern_told ls i e = (first_stuck ls i e, λ now m. absurd (let c : outcome_of ls ≡ closed = found_closed ls now m in cc))

none_stuck : NoneStuck []
none_stuck i m = Contains-none (stuck_at i) m

stuck_found : (now : Now) (ls : List Leaf) → NoneStuck ls → NoneStuck (found now ∷ ls)
stuck_found now ls n i m = elim (Contains-cases (found now) ls (stuck_at i) m) [ inl e ↦ absurd (cc) | inr k ↦ n i k ]

stuck_blind : (ls : List Leaf) → NoneStuck ls → NoneStuck (blind ∷ ls)
stuck_blind ls n i m = elim (Contains-cases blind ls (stuck_at i) m) [ inl e ↦ absurd (cc) | inr k ↦ n i k ]

abbrev First : ℕ → List Leaf → List Now → Type 0
First n ls ns = (before : List Leaf) × (after : List Leaf) × (ls ≡ before ++ after) × NoneStuck before × (answers_in before ≡ ns) × (length ns ≤ n) × ((length ns ≡ n) ⊎ (after ≡ []))

-- THE FIRST SO MANY ANSWERS: those of a front without a stuck leaf, as many as are asked for or all that there are
pub these_told : (n : ℕ) (ls : List Leaf) (ns : List Now) → first_answers n ls ≡ these ns → First n ls ns
these_told zero ls ns e = let none : [] ≡ ns = cc in ([], ls, refl, none_stuck, none, subst (λ (k : List Now). length k ≤ zero) none (omega arith), inl (sym (ap length none)))
these_told (suc n) [] ns e = let none : [] ≡ ns = cc in ([], [], refl, none_stuck, none, subst (λ (k : List Now). length k ≤ suc n) none (omega arith), inr refl)
these_told (suc n) (found now ∷ ls) ns e = go (first_answers n ls) e (these_told n ls)
  where
    go : (a : Answers) → answer_and now a ≡ these ns → ((ms : List Now) → a ≡ these ms → First n ls ms) → First (suc n) (found now ∷ ls) ns
    go (these ms) q rest =
        let r = rest ms refl in
        let same : now ∷ ms ≡ ns = cc in
        subst (First (suc n) (found now ∷ ls)) same (
          found now ∷ r.0,
          r.1,
          ap (λ k. found now ∷ k) r.2,
          stuck_found now r.0 r.3,
          ap (λ k. now ∷ k) r.4,
          (let low = r.5 in omega (arith, low)),
          elim r.6 [ inl f ↦ inl (ap suc f) | inr f ↦ inr f ],
        )
    go (but_for i) q rest = absurd (cc)
these_told (suc n) (stuck_at i ∷ ls) ns e = absurd (cc)
these_told (suc n) (blind ∷ ls) ns e =
    let r = these_told (suc n) ls ns e in
    (blind ∷ r.0, r.1, ap (λ k. blind ∷ k) r.2, stuck_blind r.0 r.3, r.4, r.5, r.6)

abbrev Before : ℕ → List Leaf → ℕ → Type 0
Before n ls i = (before : List Leaf) × (after : List Leaf) × (ls ≡ before ++ stuck_at i ∷ after) × NoneStuck before × (length (answers_in before) < n)

-- THEY AREN'T TOLD where the first stuck leaf stands before the last of them, or before none where there are fewer
pub but_told : (n : ℕ) (ls : List Leaf) (i : ℕ) → first_answers n ls ≡ but_for i → Before n ls i
but_told zero ls i e = absurd (cc)
but_told (suc n) [] i e = absurd (cc)
but_told (suc n) (found now ∷ ls) i e = go (first_answers n ls) e (but_told n ls)
  where
    go : (a : Answers) → answer_and now a ≡ but_for i → ((j : ℕ) → a ≡ but_for j → Before n ls j) → Before (suc n) (found now ∷ ls) i
    go (these ms) q rest = absurd (cc)
    go (but_for j) q rest =
        let same : j ≡ i = cc in
        let r = rest i (ap but_for same) in
        (found now ∷ r.0, r.1, ap (λ k. found now ∷ k) r.2, stuck_found now r.0 r.3, (let low = r.4 in omega (arith, low)))
but_told (suc n) (stuck_at j ∷ ls) i e = let same : j ≡ i = cc in ([], ls, ap (λ k. stuck_at k ∷ ls) same, none_stuck, omega arith)
but_told (suc n) (blind ∷ ls) i e =
    let r = but_told (suc n) ls i e in
    (blind ∷ r.0, r.1, ap (λ k. blind ∷ k) r.2, stuck_blind r.0 r.3, r.4)
