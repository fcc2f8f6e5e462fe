-- The way in which the first goal's conclusion unfolds. Public contracts don't speak of this.
use Rattle.std.specs.Prelude.{◌≡◌, ℕ, List, ◌∷◌, Some}
use Rattle.ab_unify.specs.Problem.{cells_read}
use Rattle.ab_formulas.specs.Sequents.{Sequent}
use Rattle.ab_logic.specs.Worlds.{declarations_of}
use Rattle.ab_logic.specs.declared.world.World.{World}
use Rattle.ab_formulas.specs.BodyMarks.{MayBeUnfolded}
use Rattle.ab_theory.specs.Equations.{AreCells}
use Rattle.ab_theory.specs.Subjects.{Subject, subject_of, sign_of}
use Rattle.ab_steps.specs.ab_kernel.specs.ab_judgements.specs.SubjectAnswers.{FindsWay}
use Rattle.ab_steps.specs.ab_kernel.specs.ab_judgements.specs.ab_alternatives.specs.declared.first_choice.Found.TheVariants.{Closed}
use Rattle.ab_steps.specs.ab_kernel.specs.Layout.{Held, goals_of}

-- the conclusion is a subject that may be unfolded, and the way of this place is the first that may do it, which leaves nothing
-- open
pub record UnfoldsThere (w : World) (s : Sequent) (place : ℕ) : Type 0 where
  pub subject : Subject
  pub is_subject : subject_of (declarations_of w) s.conclusion ≡ Some subject
  pub may : MayBeUnfolded (sign_of subject)
  pub over : AreCells (cells_read w.types w.store) s
  pub finds : FindsWay (cells_read w.types w.store) s subject (Closed place)

-- the same of the first goal
abbrev pub UnfoldsBy : World → Held → ℕ → Type 0
UnfoldsBy w p place = (s : Sequent) (rest : List Sequent) → goals_of w p ≡ s ∷ rest → UnfoldsThere w s place
