-- The state of a session: what was declared, the proof that is open, how goals are shown, and the commands that it keeps.
use Rattle.std.specs.Prelude.{ℕ, List, [], ◌∷◌, ◌++◌, map, Bool, true, Option, Some, None, is_some}
use Rattle.std.specs.List.{list_any}
use Rattle.ab_sigmod.specs.FileOrder as file
use Rattle.ab_term.specs.Terms.{Read}
use Rattle.ab_formulas.specs.Declarations.{Declarations}
use Rattle.ab_logic.specs.Worlds.{first_declarations}
use Rattle.ab_logic.specs.declared.world.World.{World}
use Rattle.ab_theory.specs.Derivations.{open_goals}
use Rattle.ab_kernel.specs.Layout.{Held, history_of}
use Rattle.ab_formulas.specs.NamedGoals.{Goal, named}

-- a proof that is being made: of which theorem, the goals that are left of it, the current one first, and the places of the theorems
-- that it assumes so far, its own among them where a goal was admitted
pub record Attempt : Type 0 where
  pub name : List ℕ
  pub formula : Read
  pub goals : List Goal
  pub assumed : List ℕ

-- A COMMAND THAT IS KEPT: its bytes, and the files of the specification that it read, if it read one
pub record Entry : Type 0 where
  pub bytes : List ℕ
  pub specification : Option (List file.Read)

-- the entry of a command that reads no file
abbrev pub plain : List ℕ → Entry
plain bytes = record { bytes = bytes; specification = None }

-- the entry of one that read these
abbrev pub with_files : List file.Read → List ℕ → Entry
with_files files bytes = record { bytes = bytes; specification = Some files }

pub record State : Type 0 where
  -- kinds, constants, definitions and theorems, in order, behind those that are built in
  pub declarations : Declarations
  pub attempt : Option Attempt
  -- whether the goals behind the current one are shown
  pub all_subgoals : Bool
  -- the commands that are kept, in order
  pub kept : List Entry

-- THE STATE IN WHICH A SESSION BEGINS
abbrev pub empty : State
empty = record { declarations = first_declarations; attempt = None; all_subgoals = true; kept = [] }

-- whether a proof is open
abbrev pub is_open : State → Bool
is_open s = is_some s.attempt

-- whether a specification is kept
abbrev pub is_specified : State → Bool
is_specified s = list_any (λ (e : Entry). is_some e.specification) s.kept

-- one command more is kept
abbrev pub keeping : Entry → State → State
keeping entry s = record s { kept = s.kept ++ entry ∷ [] }

-- these stand behind what was declared
abbrev pub declaring : Declarations → State → State
declaring more s = record s { declarations = s.declarations ++ more }

-- a proof is open that has these goals left
abbrev pub proving : Attempt → State → State
proving a s = record s { attempt = Some a }

-- no proof is open
abbrev pub closed : State → State
closed s = record s { attempt = None }

abbrev pub showing : Bool → State → State
showing all s = record s { all_subgoals = all }

-- the goals of the proof that is open
abbrev pub goals_left : Option Attempt → List Goal
goals_left None = []
goals_left (Some a) = a.goals

abbrev pub goals_of : State → List Goal
goals_of s = goals_left s.attempt

-- the goals of a proof that is held, if one is
abbrev pub goals_in : World → Option Held → List Goal
goals_in w None = []
goals_in w (Some p) = map named (open_goals (history_of w p).tree)
