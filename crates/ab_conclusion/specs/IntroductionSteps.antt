-- A STEP ON THE WAY of what is taken off a conclusion.
use Rattle.std.specs.Prelude.{◌≡◌, ℕ, ◌<◌, ◌≤◌, List, ◌∷◌, drop, length}
use Rattle.ab_formulas.specs.Declarations.{Declarations}
use Rattle.ab_formulas.specs.Forms.{form_of}
use Rattle.ab_formulas.specs.Sequents.{Sequent}
use Rattle.ab_logic.specs.Worlds.{declarations_of}
use Rattle.ab_logic.specs.declared.world.World.{World}
use Rattle.ab_steps.specs.ab_kernel.specs.Layout.{Held, goals_of}
use Rattle.ab_effects.specs.Introductions.{IsKept, Introduced, Unnamed}
use Rattle.ab_steps.proofs.Connectives.{connectives}
use Rattle.ab_conclusion.specs.declared.introductions.Taken.{Taken}
use Rattle.ab_conclusion.specs.declared.introductions.Taken.TheVariants.{Nothing, Next, Nameless}

-- what becomes of the second goal, with the names that are left then, becomes of the first
pub record LeadsOn (D : Declarations) (xs : List (List ℕ)) (s : Sequent) (ys : List (List ℕ)) (u : Sequent) : Type 0 where
  pub leads : (zs : List (List ℕ)) (t : Sequent) → Introduced D ys u zs t → Introduced D xs s zs t
  pub fails : Unnamed D ys u → Unnamed D xs s

-- of the first goal and the names that are left something was taken off, and other names are left
abbrev pub IsTakenOff : List (List ℕ) → List (List ℕ) → World → Held → World → Held → Type 0
IsTakenOff xs ys w p v q = (s : Sequent) (rest : List Sequent) → goals_of w p ≡ s ∷ rest →
    (u : Sequent) × LeadsOn (declarations_of w) xs s ys u × (connectives u.conclusion < connectives s.conclusion) × (goals_of v q ≡ u ∷ rest)

-- from the first goal's conclusion nothing can be taken off
abbrev pub IsAtItsEnd : World → Held → Type 0
IsAtItsEnd w p = (s : Sequent) (rest : List Sequent) → goals_of w p ≡ s ∷ rest → IsKept (form_of s.conclusion)

-- a new hypothesis of it gets no name
abbrev pub IsNameless : List (List ℕ) → World → Held → Type 0
IsNameless xs w p = (s : Sequent) (rest : List Sequent) → goals_of w p ≡ s ∷ rest → Unnamed (declarations_of w) xs s

-- what was taken off the first goal's conclusion, where so many of the names were given
abbrev pub WasTaken : List (List ℕ) → ℕ → World → Held → World → Held → Taken → Type 0
WasTaken xs given w p v q Nothing = IsAtItsEnd w p × (goals_of v q ≡ goals_of w p)
WasTaken xs given w p v q (Next n) = (n ≤ length xs) × IsTakenOff (drop given xs) (drop n xs) w p v q
WasTaken xs given w p v q Nameless = IsNameless (drop given xs) w p
