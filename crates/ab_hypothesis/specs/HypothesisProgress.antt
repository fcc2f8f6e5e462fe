-- What the calls that open formulas leave of a goal. The contracts of commands don't speak of this.
use Rattle.std.specs.Prelude.{◌≡◌, ◌<◌, ℕ, List, ◌∷◌, map, All, Bool, Some, if◌then◌else◌}
use Rattle.ab_term.specs.Types.{Ty}
use Rattle.ab_term.specs.Terms.{Read}
use Rattle.ab_formulas.specs.Declarations.{Declarations}
use Rattle.ab_formulas.specs.NewNames.{Label, auto, Names}
use Rattle.ab_logic.specs.SequentReadings.{hypothesis_of}
use Rattle.ab_logic.specs.Worlds.{Holds, declarations_of}
use Rattle.ab_formulas.specs.Sequents.{Hypothesis, Sequent, formula_of, formulas, goal_names, assuming, without}
use Rattle.ab_formulas.specs.Cycles.{MayCycle, type_among}
use Rattle.ab_logic.specs.declared.world.World.{World}
use Rattle.ab_logic.specs.declared.sequent.Hypothesis.{Hypothesis as Kept}
use Rattle.ab_steps.specs.ab_kernel.specs.Layout.{Held, goals_of}
use Rattle.ab_effects.specs.Openings.{Opened, Nameless}
use Rattle.ab_steps.specs.Progress.{IsAt}
use Rattle.ab_hypothesis.specs.OwnNames.{AreOwn, HasAll, besides, weight}

-- the goal of the place has the hypothesis
pub record HasAt (w : World) (p : Held) (place : ℕ) (name : List ℕ) (F : Read) : Type 0 where
  pub before : List Sequent
  pub behind : List Sequent
  pub goal : Sequent
  pub at : IsAt w p place before goal behind
  pub has : formula_of goal name ≡ Some F

-- The goal of the place has these hypotheses of the command's own, which are to be opened in this order: no name is
-- automatic or the label.
pub record Pending (w : World) (p : Held) (place : ℕ) (l : Label) (ks : List Kept) : Type 0 where
  pub before : List Sequent
  pub behind : List Sequent
  pub goal : Sequent
  pub at : IsAt w p place before goal behind
  pub held : All (λ (h : Kept). Holds w h.formula) ks
  pub own : AreOwn l (map (hypothesis_of w) ks)
  pub all : HasAll (map (hypothesis_of w) ks) goal

-- what is opened from the second on is opened from the first on, and so what can't be
pub record Continues (D : Declarations) (Fs : List Read) (l : Label) (s : Sequent) (Gs : List Read) (m : Label) (t : Sequent) : Type 0 where
  pub opened : (n : Label) (u : Sequent) → Opened D Gs m t n u → Opened D Fs l s n u
  pub nameless : Nameless D Gs m t → Nameless D Fs l s

-- A GOAL THAT WAITED for the first hypotheses to be opened became one that waits for the second
pub record OpensTo (D : Declarations) (hs : List Hypothesis) (l : Label) (k : Sequent) (gs : List Hypothesis) (m : Label) (w : World) (p : Held) (place : ℕ) (before behind : List Sequent) : Type 0 where
  pub goal : Sequent
  pub at : IsAt w p place before goal behind
  pub all : HasAll gs goal
  pub continues : Continues D (formulas hs) l (besides hs k) (formulas gs) m (besides gs goal)

-- the same of the goal of the place
abbrev pub Opens : World → Held → ℕ → Label → List Kept → World → Held → Label → List Kept → Type 0
Opens w p place l ks v q m js = (before behind : List Sequent) (k : Sequent) → IsAt w p place before k behind →
    OpensTo (declarations_of w) (map (hypothesis_of w) ks) l k (map (hypothesis_of v) js) m v q place before behind

-- ONE STEP of opening: it goes on with the second list, of which less is to be opened
pub record Goes (w : World) (p : Held) (place : ℕ) (l m : Label) (ks : List Kept) (v : World) (q : Held) (n : Label) (js : List Kept) : Type 0 where
  pub pending : Pending v q place l js
  pub opens : Opens w p place m ks v q n js
  pub fewer : weight (map (hypothesis_of v) js) < weight (map (hypothesis_of w) ks)

-- the formulas can't be opened at the goal of the place
abbrev pub CantOpen : World → Held → ℕ → Label → List Kept → Type 0
CantOpen w p place l ks = (before behind : List Sequent) (k : Sequent) → IsAt w p place before k behind →
    Nameless (declarations_of w) (formulas (map (hypothesis_of w) ks)) l (besides (map (hypothesis_of w) ks) k)

-- THE FORMULAS WERE OPENED in the goal, which is the one of the place
pub record OpenedTo (D : Declarations) (Fs : List Read) (l : Label) (s : Sequent) (w : World) (p : Held) (place : ℕ) (before behind : List Sequent) : Type 0 where
  pub label : Label
  pub goal : Sequent
  pub at : IsAt w p place before goal behind
  pub opened : Opened D Fs l s label goal

-- the label, where it is still to be given
abbrev pub label_left : Label → Bool → Label
label_left l b = if b then l else auto

-- the formula was put behind the other hypotheses of the goal, and named by the label
pub record CopiedTo (l : Label) (F : Read) (k : Sequent) (w : World) (p : Held) (place : ℕ) (before behind : List Sequent) : Type 0 where
  pub name : List ℕ
  pub base : Sequent
  pub names : Names l k name base
  pub at : IsAt w p place before (assuming name F base) behind

-- the same, and the hypothesis from which it came is gone
pub record MovedTo (l : Label) (F : Read) (H : List ℕ) (k : Sequent) (w : World) (p : Held) (place : ℕ) (before behind : List Sequent) : Type 0 where
  pub name : List ℕ
  pub base : Sequent
  pub names : Names l k name base
  pub at : IsAt w p place before (without H (assuming name F base)) behind

-- the numbers may change places in the first goal, and one of them stands there at the type
abbrev pub MayCycleAt : World → Held → List ℕ → Ty → Type 0
MayCycleAt w p ns A = (s : Sequent) (rest : List Sequent) → goals_of w p ≡ s ∷ rest → MayCycle ns (goal_names s) × (type_among ns (goal_names s) ≡ Some A)
