-- What steps leave of the goal of a place: how many goals, or which; and what a use owes.
use Rattle.std.specs.Prelude.{◌≡◌, ℕ, List, [], ◌∷◌, ◌++◌, map, length}
use Rattle.ab_term.specs.Terms.{Read}
use Rattle.ab_formulas.specs.NewNames.{Label}
use Rattle.ab_formulas.specs.Sequents.{Sequent, proving, without}
use Rattle.ab_logic.specs.Worlds.{declarations_of}
use Rattle.ab_logic.specs.declared.world.World.{World}
use Rattle.ab_hypothesis.specs.ab_steps.specs.ab_kernel.specs.Layout.{Held, goals_of}
use Rattle.ab_theory.specs.Pieces.{Given}
use Rattle.ab_effects.specs.FormulaUses.{OpenedBeside, NamelessBeside}
use Rattle.ab_effects.specs.ProofCommands.{is_used}
use Rattle.ab_effects.specs.Debts.{taken_unless}
use Rattle.ab_hypothesis.specs.ab_steps.specs.Progress.{Owes, IsAt, GaveWay}

-- the goal of the place gave way to so many
abbrev pub Gives : World → Held → World → Held → ℕ → ℕ → Type 0
Gives w p v q place n = GaveWay w p v q place (λ s ps. length ps ≡ n)

-- the goal without these hypotheses, of which the last goes first
abbrev pub bared : List (List ℕ) → Sequent → Sequent
bared [] k = k
bared (x ∷ xs) k = without x (bared xs k)

-- the hypotheses of these names went from the goal of the place
abbrev pub Bares : World → Held → World → Held → ℕ → List (List ℕ) → Type 0
Bares w p v q place xs = (before behind : List Sequent) (k : Sequent) → IsAt w p place before k behind →
    IsAt v q place before (bared xs k) behind

-- The formula is a goal in the place, where these hypotheses are gone; and behind it the goal was given one hypothesis more,
-- without which and them it is what it was without them.
abbrev pub AwaitsOne : World → Held → World → Held → ℕ → List (List ℕ) → Read → List (List ℕ) → Type 0
AwaitsOne w p v q place xs A ys = (before behind : List Sequent) (k : Sequent) → IsAt w p place before k behind →
    (t : Sequent) × IsAt v q place before (proving A (bared xs k)) (t ∷ behind) × (bared ys t ≡ bared xs k)

-- the formulas are goals in the place, where these hypotheses are gone, and a goal stands behind them
abbrev pub AwaitsAll : World → Held → World → Held → ℕ → List (List ℕ) → List Read → ℕ → Type 0
AwaitsAll w p v q place xs As next = (before behind : List Sequent) (k : Sequent) → IsAt w p place before k behind →
    (t : Sequent) × IsAt v q next (before ++ map (λ A. proving A (bared xs k)) As) t behind

-- the formulas are goals in the place of the goal, and nothing else is left of it; there are so many
abbrev pub ShowsAll : World → Held → World → Held → ℕ → List Read → Type 0
ShowsAll w p v q place As = (before behind : List Sequent) (s : Sequent) → IsAt w p place before s behind →
    goals_of v q ≡ (before ++ map (λ A. proving A s) As) ++ behind

-- the proof owes the theorem of this name more, where no hypothesis of the first goal has it, and nothing else
abbrev pub OwesUse : List ℕ → World → Held → World → Held → Type 0
OwesUse H w p v q = (s : Sequent) (rest : List Sequent) → goals_of w p ≡ s ∷ rest → Owes (taken_unless (is_used s H) H) w p v q

-- the goal of the place has this conclusion instead
abbrev pub Turns : World → Held → World → Held → ℕ → Read → Type 0
Turns w p v q place F = (before behind : List Sequent) (k : Sequent) → IsAt w p place before k behind →
    IsAt v q place before (proving F k) behind

-- A FORMULA WAS OPENED in the goal of the place, without the hypothesis of this name, beside the terms that are given
abbrev pub OpensBeside : World → Held → World → Held → ℕ → Label → List ℕ → List Given → Read → Type 0
OpensBeside w p v q place l y gs R = (before behind : List Sequent) (k : Sequent) → IsAt w p place before k behind →
    (t : Sequent) × OpenedBeside (declarations_of w) gs R l (without y k) t × IsAt v q place before t behind

-- it can't be
abbrev pub CantOpenBeside : World → Held → ℕ → Label → List ℕ → List Given → Read → Type 0
CantOpenBeside w p place l y gs R = (before behind : List Sequent) (k : Sequent) → IsAt w p place before k behind →
    NamelessBeside (declarations_of w) gs R l (without y k)
