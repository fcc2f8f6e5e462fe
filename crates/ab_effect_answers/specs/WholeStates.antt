-- A WHOLE STATE: what is defined is so by clauses of case analysis, the state is the replay of its kept commands, and each goal of an
-- open proof is a sequent with names for the numbers of its variables.
use Rattle.std.specs.Prelude.{All, Option, Some, None}
use Rattle.ab_formulas.specs.Declarations.{Declarations, HaveDefinitions}
use Rattle.ab_formulas.specs.Sequents.{Sequent}
use Rattle.ab_formulas.specs.NamedGoals.{Goal, IsNumbered}
use Rattle.ab_states.specs.State.{Attempt, State}
use Rattle.ab_states.specs.Replay.{IsReplayed}

-- the goal is a sequent, by some numbers for its variables
abbrev pub IsGoal : Declarations → Goal → Type 0
IsGoal D g = (t : Sequent) × IsNumbered D g t

-- each that is left is one
abbrev pub HasGoals : Declarations → Option Attempt → Type 0
HasGoals D None = Unit {0}
HasGoals D (Some a) = All (IsGoal D) a.goals

pub record IsWhole (s : State) : Type 0 where
  pub definitions : HaveDefinitions s.declarations
  pub replayed : IsReplayed s
  pub goals : HasGoals s.declarations s.attempt
