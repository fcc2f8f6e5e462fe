-- What an analysed hypothesis leaves of a proof: goals that wait for their last hypothesis to be opened, and those in
-- which it was. Public contracts don't speak of this.
use Rattle.std.specs.Prelude.{◌≡◌, ◌+◌, ℕ, List, [], ◌∷◌, ◌++◌, length, None}
use Rattle.ab_term.specs.Terms.{Read}
use Rattle.ab_formulas.specs.NewNames.{Label, given}
use Rattle.ab_formulas.specs.Sequents.{Sequent, formula_of, assuming}
use Rattle.ab_logic.specs.Worlds.{declarations_of}
use Rattle.ab_logic.specs.declared.world.World.{World}
use Rattle.ab_theory.specs.Steps.{Step, definition_left}
use Rattle.ab_steps.specs.ab_kernel.specs.Layout.{Held, goals_of}
use Rattle.ab_effects.specs.CaseAnalysis.{AllOpened, SomeNameless}

-- the last hypothesis of the goal has this name, and no other has it
pub record Waits (name : List ℕ) (g : Sequent) : Type 0 where
  pub formula : Read
  pub rest : Sequent
  pub is : g ≡ assuming name formula rest
  pub new : formula_of rest name ≡ None

abbrev pub AllWait : List ℕ → List Sequent → Type 0
AllWait name [] = Unit {0}
AllWait name (g ∷ gs) = Waits name g × AllWait name gs

-- so many of the first goals wait
pub record FirstWait (w : World) (p : Held) (name : List ℕ) (count : ℕ) : Type 0 where
  pub goals : List Sequent
  pub behind : List Sequent
  pub are : goals_of w p ≡ goals ++ behind
  pub counted : length goals ≡ count
  pub wait : AllWait name goals

-- the last hypothesis was opened in each of so many of the first goals
pub record FirstOpened (w : World) (p : Held) (l : Label) (count : ℕ) (v : World) (q : Held) : Type 0 where
  pub goals : List Sequent
  pub behind : List Sequent
  pub opened : List Sequent
  pub were : goals_of w p ≡ goals ++ behind
  pub counted : length goals ≡ count
  pub all : AllOpened (declarations_of w) l goals opened
  pub are : goals_of v q ≡ opened ++ behind

-- it can't be opened in one of so many of the first goals
pub record FirstNameless (w : World) (p : Held) (l : Label) (count : ℕ) : Type 0 where
  pub goals : List Sequent
  pub behind : List Sequent
  pub are : goals_of w p ≡ goals ++ behind
  pub counted : length goals ≡ count
  pub one : SomeNameless (declarations_of w) l goals

-- Some of the first goals wait still: so many were opened, and so many there are in all.
pub record OpenedSoFar (w : World) (p : Held) (l : Label) (name : List ℕ) (count : ℕ) (v : World) (q : Held) (place : ℕ) : Type 0 where
  pub first : List Sequent
  pub opened : List Sequent
  pub waiting : List Sequent
  pub behind : List Sequent
  pub were : goals_of w p ≡ first ++ (waiting ++ behind)
  pub are : goals_of v q ≡ opened ++ (waiting ++ behind)
  pub all : AllOpened (declarations_of w) l first opened
  pub wait : AllWait name waiting
  pub done : length opened ≡ place
  pub of_first : length first ≡ place
  pub in_all : place + length waiting ≡ count

-- the step by which the goal is split by a hypothesis of the command's own, whose name the bodies get
abbrev pub split_own : List ℕ → Step
split_own name = definition_left name (given name)
