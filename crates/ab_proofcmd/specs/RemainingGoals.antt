-- What `apply` leaves of the first goal. Public contracts don't speak of this.
use Rattle.std.specs.Prelude.{◌≡◌, List, [], ◌∷◌, ◌++◌, map}
use Rattle.ab_term.specs.Terms.{Read}
use Rattle.ab_formulas.specs.NewNames.{Label}
use Rattle.ab_formulas.specs.Sequents.{Sequent, proving}
use Rattle.ab_logic.specs.Worlds.{declarations_of}
use Rattle.ab_logic.specs.declared.world.World.{World}
use Rattle.ab_hypothesis.specs.ab_steps.specs.ab_kernel.specs.Layout.{Held, goals_of}
use Rattle.ab_theory.specs.Pieces.{Given}
use Rattle.ab_effects.specs.FormulaUses.{OpenedBeside, NamelessBeside}

-- the formulas are goals, and then the first goal in which this one was opened
abbrev pub LeavesOpened : World → Held → World → Held → Label → List Given → List Read → Read → Type 0
LeavesOpened w p v q l gs As R = (s : Sequent) (rest : List Sequent) → goals_of w p ≡ s ∷ rest →
    (t : Sequent) × OpenedBeside (declarations_of w) gs R l s t × (goals_of v q ≡ (map (λ A. proving A s) As ++ t ∷ []) ++ rest)

-- it can't be opened there
abbrev pub CantOpenResult : World → Held → Label → List Given → Read → Type 0
CantOpenResult w p l gs R = (s : Sequent) (rest : List Sequent) → goals_of w p ≡ s ∷ rest → NamelessBeside (declarations_of w) gs R l s
