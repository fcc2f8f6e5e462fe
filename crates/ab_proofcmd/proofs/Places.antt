-- Goals that give way to as many, one step after another.
use Rattle.std.proofs.Common.{◌≡◌, ℕ, ◌+◌, List, [], ◌∷◌, ◌++◌, length, refl, sym, ◌∙◌, ap, arith, append_assoc, append-nil}
use Rattle.std.proofs.lemmas.List.{length-append}
use Rattle.ab_formulas.specs.Sequents.{Sequent}
use Rattle.ab_logic.specs.declared.world.World.{World}
use Rattle.ab_hypothesis.specs.ab_steps.specs.ab_kernel.specs.Layout.{Held, goals_of}
use Rattle.ab_theory.specs.Steps.{Step}
use Rattle.ab_hypothesis.specs.ab_steps.specs.Progress.{IsAt, TookInto}
use Rattle.ab_proofcmd.specs.GoalCounts.{Gives}

-- a step that was taken
pub gives_so : (w v : World) (p q : Held) (place n : ℕ) (step : Step) → TookInto w p v q place step n → Gives w p v q place n
gives_so w v p q place n step took before behind s at = let t = took before behind s at in (t.0, t.1.1, t.2)

-- one at least
first_of : (ps : List Sequent) (n : ℕ) → length ps ≡ n + 1 → (a : Sequent) × (vs : List Sequent) × (ps ≡ a ∷ vs) × (length vs ≡ n)
first_of [] n e = absurd (omega (arith, e))
first_of (a ∷ vs) n e = (a, vs, refl, omega (arith, e))

pub gives_first : (w v : World) (p q : Held) (place n : ℕ) → Gives w p v q place (n + 1) → (before behind : List Sequent) (s : Sequent) → IsAt w p place before s behind
    → (a : Sequent) × (vs : List Sequent) × IsAt v q place before a (vs ++ behind) × (length vs ≡ n)
gives_first w v p q place n gives before behind s at =
    let t = gives before behind s at in
    let f = first_of t.0 n t.1 in
    (f.0, f.1, record { goals = t.2 ∙ ap (λ ps. (before ++ ps) ++ behind) f.2 ∙ append_assoc before (f.0 ∷ f.1) behind; counted = at.counted }, f.3)

-- the first of them gives way
pub gives_on : (w v u : World) (p q r : Held) (place n m : ℕ) → Gives w p v q place (n + 1) → Gives v q u r place m → Gives w p u r place (m + n)
gives_on w v u p q r place n m one two before behind s at =
    let f = gives_first w v p q place n one before behind s at in
    let t = two before (f.1 ++ behind) f.0 f.2 in (
      t.0 ++ f.1,
      length-append t.0 f.1 ∙ ap (λ k. k + length f.1) t.1 ∙ ap (λ k. m + k) f.3,
      t.2 ∙ sym (append_assoc (before ++ t.0) f.1 behind) ∙ ap (λ gs. gs ++ behind) (append_assoc before t.0 f.1),
    )

none_of : (ps : List Sequent) → length ps ≡ 0 → ps ≡ []
none_of [] e = refl
none_of (a ∷ vs) e = absurd (omega (arith, e))

-- nothing is left of it
pub gone : (w v : World) (p q : Held) (place : ℕ) → Gives w p v q place 0 → (before behind : List Sequent) (s : Sequent) → IsAt w p place before s behind → goals_of v q ≡ before ++ behind
gone w v p q place gives before behind s at =
    let t = gives before behind s at in
    t.2 ∙ ap (λ ps. (before ++ ps) ++ behind) (none_of t.0 t.1) ∙ ap (λ gs. gs ++ behind) (append-nil before)
