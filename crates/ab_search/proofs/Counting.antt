-- How many goals stand where others stood, one stretch of steps after another.
use Rattle.std.proofs.Common.{◌≡◌, ℕ, ◌+◌, ◌-◌, ◌<◌, ◌≤◌, List, [], ◌∷◌, ◌++◌, length, take, drop, refl, sym, ◌∙◌, ap, subst, arith, length-append}
use Rattle.std.proofs.lemmas.List.{append_assoc}
use Rattle.ab_formulas.specs.Sequents.{Sequent}
use Rattle.ab_formulas.proofs.KernelSplits.{within, at_place}
use Rattle.ab_logic.specs.declared.world.World.{World}
use Rattle.ab_steps.specs.ab_kernel.specs.Layout.{Held, goals_of}
use Rattle.ab_steps.specs.Progress.{IsAt}
use Rattle.ab_search.specs.GoalCounts.{GaveWayTo, FirstGaveWay}

-- one at least
parted : (ps : List Sequent) (k : ℕ) → length ps ≡ k + 1 → (t : Sequent) × (ts : List Sequent) × (ps ≡ t ∷ ts) × (length ts ≡ k)
parted [] k e = absurd (omega (arith, e))
parted (t ∷ ts) k e = (t, ts, refl, omega (arith, e))

-- A STEP MORE, at the first of those that came
pub on_first : (w v u : World) (p q r : Held) (place k c : ℕ) → GaveWayTo w p v q place (k + 1) → GaveWayTo v q u r place c → GaveWayTo w p u r place (c + k)
on_first w v u p q r place k c first then = λ before behind s at.
    let a = first before behind s at in
    let x = parted a.0 k a.1 in
    let t = x.0 in
    let ts = x.1 in
    let there : goals_of v q ≡ before ++ t ∷ (ts ++ behind) =
    a.2 ∙ ap (λ ps. before ++ ps ++ behind) x.2 ∙ append_assoc before (t ∷ ts) behind in
    let b = then before (ts ++ behind) t (record { goals = there; counted = at.counted }) in
    let qs = b.0 in (
      qs ++ ts,
      omega (arith, length-append qs ts, b.1, x.3),
      b.2 ∙ sym (append_assoc (before ++ qs) ts behind) ∙ ap (λ l. l ++ behind) (append_assoc before qs ts),
    )

-- AMONG THE FIRST GOALS: one of these gave way to so many
pub among : (w v : World) (p q : Held) (place k c : ℕ) → place ≤ k → GaveWayTo w p v q place c → FirstGaveWay w p v q (k + 1) (k + c)
among w v p q place k c l gave = λ gs rest count e.
    let x = within gs place (omega (arith, l, count)) in
    let s = x.0 in
    let a = at_place gs place s x.1 in
    let before = take place gs in
    let behind = drop (place + 1) gs in
    let there : goals_of w p ≡ before ++ s ∷ (behind ++ rest) = e ∙ ap (λ l. l ++ rest) a.whole ∙ append_assoc before (s ∷ behind) rest in
    let b = gave before (behind ++ rest) s (record { goals = there; counted = a.counted }) in
    let qs = b.0 in
    let whole : length gs ≡ length (before ++ s ∷ behind) = ap length a.whole in (
      before ++ qs ++ behind,
      omega (arith, length-append (before ++ qs) behind, length-append before qs, length-append before (s ∷ behind), whole, count, b.1),
      b.2 ∙ sym (append_assoc (before ++ qs) behind rest),
    )

-- one stretch after another
pub first_on : (w v u : World) (p q r : Held) (n m k : ℕ) → FirstGaveWay w p v q n m → FirstGaveWay v q u r m k → FirstGaveWay w p u r n k
first_on w v u p q r n m k a b = λ gs rest count e.
    let x = a gs rest count e in
    b x.0 rest x.1 x.2

-- no step was taken
pub first_still : (w v : World) (p q : Held) (n : ℕ) → goals_of v q ≡ goals_of w p → FirstGaveWay w p v q n n
first_still w v p q n same = λ gs rest count e. (gs, count, same ∙ e)

pub gave_before : (w v u : World) (p q r : Held) (place c : ℕ) → goals_of v q ≡ goals_of w p → GaveWayTo v q u r place c → GaveWayTo w p u r place c
gave_before w v u p q r place c same gave = λ before behind s at. gave before behind s (record { goals = same ∙ at.goals; counted = at.counted })

-- the first goal is closed: of one none is left
pub closed_first : (w v : World) (p q : Held) → FirstGaveWay w p v q 1 0 → (s : Sequent) (rest : List Sequent) → goals_of w p ≡ s ∷ rest → goals_of v q ≡ rest
closed_first w v p q gave s rest e =
    let x = gave (s ∷ []) rest refl e in
    x.2 ∙ ap (λ hs. hs ++ rest) (none x.0 x.1)
  where
    none : (hs : List Sequent) → length hs ≡ 0 → hs ≡ []
    none [] e = refl
    none (h ∷ hs) e = absurd (omega (arith, e))

-- no step was taken: one goal stands where it stood
pub stands : (w : World) (p : Held) (place : ℕ) → GaveWayTo w p w p place 1
stands w p place = λ before behind s at. (s ∷ [], refl, at.goals ∙ sym (append_assoc before (s ∷ []) behind))
