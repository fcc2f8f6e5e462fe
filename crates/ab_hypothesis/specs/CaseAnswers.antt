-- What taking a hypothesis apart leaves of a proof. Public contracts don't speak of this.
use Rattle.std.specs.Prelude.{◌≡◌, List, ◌∷◌, ◌++◌, Bool, None, ℕ, if◌then◌else◌}
use Rattle.ab_term.specs.Terms.{Read}
use Rattle.ab_formulas.specs.Forms.{Form, truth, falsity, both, either, equal, exists, nabla, marked, other, form_of}
use Rattle.ab_formulas.specs.NewNames.{Label}
use Rattle.ab_formulas.specs.Sequents.{Sequent, formula_of, assuming, without}
use Rattle.ab_logic.specs.Worlds.{declarations_of}
use Rattle.ab_logic.specs.declared.world.World.{World}
use Rattle.ab_steps.specs.ab_kernel.specs.Layout.{Held, goals_of}
use Rattle.ab_effects.specs.ProofCommands.{cases}
use Rattle.ab_meaning.specs.Refusals.{Refusal}
use Rattle.ab_effects.specs.Row.{Leads, Refuses}

-- a formula of this form is opened in its goal
abbrev pub IsOpened : Form → Type 0
IsOpened truth = Unit {0}
IsOpened (both A B) = Unit {0}
IsOpened (exists A t) = Unit {0}
IsOpened (nabla A t) = Unit {0}
IsOpened _ = ⊥

-- one of this form is solved in its goal
abbrev pub IsEquation : Form → Type 0
IsEquation (equal A t u) = Unit {0}
IsEquation _ = ⊥

-- one of this form may be a defined atom or a judgement
abbrev pub IsAtom : Form → Type 0
IsAtom (marked m t) = Unit {0}
IsAtom other = Unit {0}
IsAtom _ = ⊥

-- one of this form may be taken apart
abbrev pub HasCases : Form → Type 0
HasCases truth = Unit {0}
HasCases falsity = Unit {0}
HasCases (both A B) = Unit {0}
HasCases (either A B) = Unit {0}
HasCases (equal A t u) = Unit {0}
HasCases (exists A t) = Unit {0}
HasCases (nabla A t) = Unit {0}
HasCases (marked m t) = Unit {0}
HasCases other = Unit {0}
HasCases _ = ⊥

-- the goal in which the hypothesis is taken apart
abbrev pub rest_of : Bool → List ℕ → Sequent → Sequent
rest_of keep H s = if keep then s else without H s

-- there the formula stands as a hypothesis of the command's own
abbrev pub Begun : World → Held → World → Held → Bool → List ℕ → List ℕ → Read → Type 0
Begun w p v q keep H y F = (s : Sequent) (rest : List Sequent) → goals_of w p ≡ s ∷ rest →
    (goals_of v q ≡ assuming y F (rest_of keep H s) ∷ rest) × (formula_of (rest_of keep H s) y ≡ None)

-- the hypothesis was taken apart by its row
abbrev pub TakenApart : World → Held → World → Held → Label → Bool → List ℕ → Read → Type 0
TakenApart w p v q l keep H F = (s : Sequent) (rest : List Sequent) → goals_of w p ≡ s ∷ rest →
    (ps : List Sequent) × Leads (cases (declarations_of w) (form_of F) F l s (rest_of keep H s)) ps × (goals_of v q ≡ ps ++ rest)

-- it can't be, and its row says so
abbrev pub CantTake : World → Held → Label → Bool → List ℕ → Read → Refusal → Type 0
CantTake w p l keep H F refusal = (s : Sequent) (rest : List Sequent) → goals_of w p ≡ s ∷ rest →
    Refuses (cases (declarations_of w) (form_of F) F l s (rest_of keep H s)) refusal
