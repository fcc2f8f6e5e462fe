-- WHAT COMES OF A HYPOTHESIS that is a defined atom or a judgement: the goal is split by the choices of the definition, or by the
-- rules, and in each case that arises the body is opened.
use Rattle.std.specs.Prelude.{◌≡◌, ℕ, suc, List, [], ◌∷◌}
use Rattle.ab_term.specs.Terms.{Read}
use Rattle.ab_unifiers.specs.Replacements.{Cell}
use Rattle.ab_formulas.specs.Declarations.{Declarations}
use Rattle.ab_formulas.specs.NewNames.{Label, IsNamedFor}
use Rattle.ab_formulas.specs.Sequents.{Sequent, assuming}
use Rattle.ab_theory.specs.Equations.{AreCells}
use Rattle.ab_theory.specs.Splits.{Split, IsUnsplit}
use Rattle.ab_theory.specs.Subjects.{Subject, cases_by}
use Rattle.ab_meaning.specs.Refusals.{Refusal, not_pattern}
use Rattle.ab_effects.specs.Openings.{Opened, Nameless}

-- THE GOAL IS SPLIT by it, and the rest stays: these are the cases that arise, in each of which the body is the
-- last hypothesis, under some name
abbrev pub IsParted : Declarations → Sequent → Sequent → Subject → List Sequent → Type 0
IsParted D goal rest x gs =
    (cells : List (Cell (List ℕ))) × AreCells cells goal × (name : List ℕ) × Split (IsNamedFor D) cells (cases_by goal rest name x) gs

-- IT CAN'T BE, since in the first case that is open an equation is outside the patterns. Equations are numbered from 1.
abbrev pub IsUnparted : Declarations → Sequent → Sequent → Subject → Refusal → Type 0
IsUnparted D goal rest x f =
    (cells : List (Cell (List ℕ))) × AreCells cells goal × (name : List ℕ) × (i : ℕ)
    × IsUnsplit (IsNamedFor D) cells (cases_by goal rest name x) i × (f ≡ not_pattern (suc i))

-- THE LAST HYPOTHESIS OF EACH GOAL IS OPENED there, with the label for the first hypothesis that comes of it
pub data AllOpened (D : Declarations) (l : Label) : List Sequent → List Sequent → Type 0 where
  none : AllOpened D l [] []
  one : (name : List ℕ) {F : Read} {m : Label} {s u : Sequent} {gs us : List Sequent}
      → Opened D (F ∷ []) l s m u → AllOpened D l gs us → AllOpened D l (assuming name F s ∷ gs) (u ∷ us)

-- one can't be, since a new hypothesis gets no name
pub data SomeNameless (D : Declarations) (l : Label) : List Sequent → Type 0 where
  here : (name : List ℕ) {F : Read} {s : Sequent} {gs : List Sequent} → Nameless D (F ∷ []) l s → SomeNameless D l (assuming name F s ∷ gs)
  behind : (name : List ℕ) {F : Read} {m : Label} {s u : Sequent} {gs : List Sequent}
      → Opened D (F ∷ []) l s m u → SomeNameless D l gs → SomeNameless D l (assuming name F s ∷ gs)
