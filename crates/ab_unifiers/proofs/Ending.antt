-- Every row of steps ends.
use Rattle.std.proofs.Common.{◌≡◌, ℕ, zero, suc, ◌+◌, ◌<◌, ◌≤◌, ◌++◌, length, Option, Some, None, refl, sym, ap, subst, arith}
use Rattle.ab_term.specs.Sizes.{size}
use Rattle.ab_unifiers.specs.Unification.{State, Answer, Result, clash, parts, replaced, rule, Found, Next, finished, goes_on, first_found, carried, next_by, next, ending, Solves, at_end, by_step}
use Rattle.ab_unifiers.proofs.Measures.{arities, total}
use Rattle.ab_unifiers.proofs.Unique.{not_both, one_step}
use Rattle.ab_unifiers.proofs.Falling.{Shrinks, fewer, narrower, total-append}
use Rattle.ab_unifiers.proofs.Steps.{Lessens, FoundAt, OnFound, first_lessens}

below : (P : ℕ → Type 0) → ((n : ℕ) → ((m : ℕ) → m < n → P m) → P n) → (n m : ℕ) → m < n → P m
below P f zero m l = absurd (omega (arith, l))
below P f (suc n) m l = f m (λ j less. below P f n j (omega (arith, l, less)))

strong : (P : ℕ → Type 0) → ((n : ℕ) → ((m : ℕ) → m < n → P m) → P n) → (n : ℕ) → P n
strong P f n = below P f (suc n) n (omega arith)

module _ {Hint : Type 0} (x : Hint) where
  -- of two states
  pub data Falls (s r : State Hint) : Type 0 where
    in_variables : Shrinks s.flexible r.flexible → Falls s r
    in_size : r.flexible ≡ s.flexible → total r.equations < total s.equations → Falls s r

  carried_falls : (s r : State Hint) (f : Found Hint) (g : Result Hint) → (at : ℕ) → Lessens s.flexible at g → total f.before + at + total f.behind ≡ total s.equations → carried s f g ≡ goes_on r → Falls s r
  carried_falls s r f clash at l w e = absurd (cc)
  carried_falls s r f (parts es) at l w e =
      let q : State Hint = record { equations = f.before ++ es ++ f.behind; cells = s.cells; flexible = s.flexible; pairs = s.pairs } in
      let same : goes_on q ≡ goes_on r = e in
      let state : q ≡ r = cc in
      subst (Falls s) state (in_size refl (omega (arith, l, w, total-append (f.before ++ es) f.behind, total-append f.before es)))
  carried_falls s r f (replaced c) at l w e = go (carried s f (replaced c)) refl e
    where
      go : (n : Next Hint) → carried s f (replaced c) ≡ n → n ≡ goes_on r → Falls s r
      go (finished a) d e = absurd (let both : finished a ≡ goes_on r = e in cc)
      go (goes_on q) d e =
          let state : q ≡ r = cc in
          let flexible : q.flexible ≡ c.flexible = flexible_of q d in
          subst (Falls s) state (in_variables (subst (Shrinks s.flexible) (sym flexible) l))
        where
          flexible_of : (q : State Hint) → carried s f (replaced c) ≡ goes_on q → q.flexible ≡ c.flexible
          flexible_of q d = cc

  by_falls : (s r : State Hint) (o : Option (Found Hint)) → OnFound x s.cells s.flexible (FoundAt x s.cells s.flexible (total s.equations)) o → next_by s o ≡ goes_on r → Falls s r
  by_falls s r None a e = absurd (let both : finished (ending s s.equations) ≡ goes_on r = e in cc)
  by_falls s r (Some f) a e = carried_falls s r f f.result a.at a.lessens a.whole e

  pub step_falls : (s r : State Hint) → next x s ≡ goes_on r → Falls s r
  step_falls s r e = by_falls s r (first_found (rule x s.cells s.flexible) s.equations) (first_lessens x s.cells s.flexible s.equations) e

  abbrev pub Answered : State Hint → Type 0
  Answered s = (a : Answer Hint) × Solves x s a

  one_more : (s : State Hint) (n : Next Hint) → next x s ≡ n → ((r : State Hint) → next x s ≡ goes_on r → Answered r) → Answered s
  one_more s (finished a) e rest = (a, at_end e)
  one_more s (goes_on r) e rest = let more = rest r e in (more.0, by_step e more.1)

  by_size : (n m : ℕ) → ((s : State Hint) → length s.flexible < n → Answered s) → ((s : State Hint) → length s.flexible ≤ n → arities s.flexible < m → Answered s) → (k : ℕ) → (s : State Hint) → length s.flexible ≤ n → arities s.flexible ≤ m → total s.equations ≡ k → Answered s
  by_size n m fewer_done narrower_done = strong (λ k. (s : State Hint) → length s.flexible ≤ n → arities s.flexible ≤ m → total s.equations ≡ k → Answered s)
      (λ k done s count arguments size. one_more s (next x s) refl (λ r e. go k done s count arguments size r (step_falls s r e)))
    where
      go : (k : ℕ) → ((j : ℕ) → j < k → (s : State Hint) → length s.flexible ≤ n → arities s.flexible ≤ m → total s.equations ≡ j → Answered s) → (s : State Hint) → length s.flexible ≤ n → arities s.flexible ≤ m → total s.equations ≡ k → (r : State Hint) → Falls s r → Answered r
      go k done s count arguments size r (in_variables (fewer l)) = fewer_done r (omega (arith, l, count))
      go k done s count arguments size r (in_variables (narrower l a)) = narrower_done r (omega (arith, l, count)) (omega (arith, a, arguments))
      go k done s count arguments size r (in_size same l) =
          let counts : length r.flexible ≡ length s.flexible = ap length same in
          let sums : arities r.flexible ≡ arities s.flexible = ap arities same in
          done (total r.equations) (omega (arith, l, size)) r (omega (arith, count, counts)) (omega (arith, arguments, sums)) refl

  by_arguments : (n : ℕ) → ((s : State Hint) → length s.flexible < n → Answered s) → (m : ℕ) → (s : State Hint) → length s.flexible ≤ n → arities s.flexible ≡ m → Answered s
  by_arguments n fewer_done = strong (λ m. (s : State Hint) → length s.flexible ≤ n → arities s.flexible ≡ m → Answered s)
      (λ m done s count arguments. by_size n m fewer_done (λ r c a. done (arities r.flexible) a r c refl) (total s.equations) s count (omega (arith, arguments)) refl)

  by_count : (n : ℕ) → (s : State Hint) → length s.flexible ≡ n → Answered s
  by_count = strong (λ n. (s : State Hint) → length s.flexible ≡ n → Answered s)
      (λ n done s count. by_arguments n (λ r c. done (length r.flexible) c r refl) (arities s.flexible) s (omega (arith, count)) refl)

  pub answered : (s : State Hint) → Answered s
  answered s = by_count (length s.flexible) s refl

  -- the state has so many steps before it
  pub data Takes : State Hint → ℕ → Type 0 where
    takes_none : {s : State Hint} {a : Answer Hint} → next x s ≡ finished a → Takes s zero
    takes_more : {s r : State Hint} {n : ℕ} → next x s ≡ goes_on r → Takes r n → Takes s (suc n)

  one_number : {s : State Hint} {n m : ℕ} → Takes s n → Takes s m → n ≡ m
  one_number (takes_none e) (takes_none f) = refl
  one_number (takes_none e) (takes_more f q) = absurd (not_both x e f)
  one_number (takes_more e p) (takes_none f) = absurd (not_both x f e)
  one_number (takes_more e p) (takes_more {n = m} f q) = ap suc (one_number p (subst (λ r. Takes r m) (sym (one_step x e f)) q))

  pub counted : {s : State Hint} {a : Answer Hint} → Solves x s a → (n : ℕ) × Takes s n
  counted (at_end e) = (zero, takes_none e)
  counted (by_step e p) = let more = counted p in (suc more.0, takes_more e more.1)

  -- THE MEASURE OF A RUN: a number, which each step lessens
  abbrev pub steps_left : State Hint → ℕ
  steps_left s = (counted ((answered s).1)).0

  pub steps_fall : (s r : State Hint) → next x s ≡ goes_on r → steps_left r < steps_left s
  steps_fall s r e =
      let here = counted ((answered s).1) in
      let there = counted ((answered r).1) in
      let same : suc there.0 ≡ here.0 = one_number (takes_more e there.1) here.1 in
      omega (arith, same)
