-- What a session holds, and the state that it is.
use Rattle.std.specs.Prelude.{ℕ, List, [], ◌∷◌, ◌++◌, Bool, Option, option_map, map, reverse}
use Rattle.ab_sigmod.specs.FileOrder as file
use Rattle.ab_sigmod.specs.Outcomes.{files_of}
use Rattle.ab_logic.specs.Worlds.{read, declarations_of}
use Rattle.ab_logic.specs.declared.world.World.{World}
use Rattle.ab_proofcmd.specs.ab_hypothesis.specs.ab_steps.specs.ab_kernel.specs.Layout.{Held, history_of, goals_of}
use Rattle.ab_theory.specs.Assumptions.{assumed_by}
use Rattle.ab_formulas.specs.NamedGoals.{named}
use Rattle.ab_states.specs.State as plain
use Rattle.ab_states.specs.State.{State, Entry}
use Rattle.ab_session.specs.declared.attempt.Attempt.{Attempt}
use Rattle.ab_session.specs.declared.command_history.Before.{Before}
use Rattle.ab_session.specs.declared.command_history.Deed.{Deed}
use Rattle.ab_session.specs.declared.command_history.Kept.{Kept}
use Rattle.ab_session.specs.declared.session.Session.TheInside.{Inside}

-- a command that is kept: its bytes and the files that it read, how the session was before it, and what it did with the open proof
pub record Past : Type 0 where
  pub bytes : List ℕ
  pub files : Option (List file.Read)
  pub before : Before
  pub deed : Deed

-- what contracts see of a session
pub record Contents : Type 0 where
  pub world : World
  -- the proofs of its theorems, in order
  pub proofs : List Held
  -- the proof that is being made
  pub attempt : Option Attempt
  pub all_subgoals : Bool
  -- the commands that are kept, the latest first
  pub past : List Past

abbrev pub past_of : Kept → Past
past_of k = record { bytes = k.bytes.items; files = option_map files_of k.spec; before = k.before; deed = k.deed }

abbrev pub contents : Inside → Contents
contents s = record {
  world = s.world;
  proofs = s.proofs.items;
  attempt = s.attempt;
  all_subgoals = s.all_subgoals;
  past = reverse (map past_of s.kept.items);
}

abbrev pub attempt_of : World → Attempt → plain.Attempt
attempt_of w a = record { name = a.name; formula = read w a.formula; goals = map named (goals_of w a.proof); assumed = assumed_by (declarations_of w) (history_of w a.proof).tree }

abbrev pub entry_of : Past → Entry
entry_of p = record { bytes = p.bytes; specification = p.files }

-- the entries of kept commands, in order
abbrev pub entries_of : List Past → List Entry
entries_of [] = []
entries_of (latest ∷ rest) = entries_of rest ++ entry_of latest ∷ []

-- THE STATE that the session is
abbrev pub state_of : Contents → State
state_of s = record {
  declarations = declarations_of s.world;
  attempt = option_map (attempt_of s.world) s.attempt;
  all_subgoals = s.all_subgoals;
  kept = entries_of s.past;
}
