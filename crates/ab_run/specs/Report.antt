-- THE REPORT OF A TEXT: its commands are answered in order, each from the state that the ones before it left, until a reply ends
-- the run; and what is printed of it.
use Rattle.std.specs.Prelude.{◌≡◌, ℕ, suc, Bool, true, false, ◌||◌, ◌&&◌, if◌then◌else◌, List, [], ◌∷◌, ◌++◌, length}
use Rattle.ab_lex.specs.Commands.{Item, ItemsOf, command, long}
use Rattle.ab_sigmod.specs.FileLoads.{Load}
use Rattle.ab_session.specs.ab_states.specs.ab_specification.specs.ab_declare.specs.declared.refusal.Refusal.TheVariants.{TooLong}
use Rattle.ab_session.specs.ab_states.specs.State.{State, empty}
use Rattle.ab_formulas.specs.Declarations.{theorems_in}
use Rattle.ab_drill.specs.declared.summary.Tallies.{Tallies}
use Rattle.ab_drill.specs.Summary.{summary}
use Rattle.ab_session.specs.ab_states.specs.Reply.{Reply, completed, admitted, quit, refused, is_refusal}
use Rattle.ab_session.specs.ab_states.specs.StateEffects.{HasEffect}
use Rattle.ab_blocks.specs.Blocks.{block}
use Rattle.ab_run.specs.declared.way.Showing.{Showing}
use Rattle.ab_run.specs.declared.way.Showing.TheVariants.{Blocks, FirstLines, Summary}
use Rattle.ab_run.specs.declared.way.Way.{Way}
use Rattle.ab_run.specs.FirstLine.{first_line}
use Rattle.ab_run.specs.ProvedTheorems.{IsBorneOut}

-- a reply, and the state behind it
pub record Moment : Type 0 where
  pub reply : Reply
  pub state : State

-- the reply to an item of a text, by the loads that it asked for: a command has its effect, by which a theorem stands
-- only where it is derived, and one that is too long is dropped
pub data Replies (s : State) : Item → List Load → Moment → Type 0 where
  to_command : {bytes : List ℕ} {loads : List Load} (m : Moment) → HasEffect s bytes loads m.reply m.state → IsBorneOut m.reply m.state → Replies s (command bytes) loads m
  to_long : (m : Moment) → m.reply ≡ refused TooLong → m.state ≡ s → Replies s long [] m

-- the moments behind the items, in order
abbrev pub Report : Type 0
Report = List Moment

abbrev pub is_quit : Reply → Bool
is_quit quit = true
is_quit reply = false

-- WHETHER A RUN ENDS WITH THIS REPLY: with a `Quit` and, where its way is so, with a refusal
abbrev pub is_end : Way → Reply → Bool
is_end way reply = (way.stops && is_refusal reply) || is_quit reply

-- THE REPORT OF THESE ITEMS in a run of this way, from this state on, by the loads that the commands ask for, in order;
-- those behind the reply that ends the run are not looked at
pub data Reports (way : Way) : State → List Item → List Load → Report → Type 0 where
  none : {s : State} → Reports way s [] [] []
  next : {s : State} {i : Item} {is : List Item} {loads later : List Load} {r : Report} (m : Moment) → Replies s i loads m → is_end way m.reply ≡ false → Reports way m.state is later r
      → Reports way s (i ∷ is) (loads ++ later) (m ∷ r)
  last : {s : State} {i : Item} {is : List Item} {loads : List Load} (m : Moment) → Replies s i loads m → is_end way m.reply ≡ true → Reports way s (i ∷ is) loads (m ∷ [])

-- the report of a text: of all its items, from the empty state on
pub record ReportOf (way : Way) (text : List ℕ) (loads : List Load) (r : Report) : Type 0 where
  pub items : List Item
  pub items_are : ItemsOf text items
  pub reports : Reports way empty items loads r

-- whether a reply ends the run
abbrev pub has_end : Way → Report → Bool
has_end way [] = false
has_end way (m ∷ r) = is_end way m.reply || has_end way r

-- how many commands were refused
abbrev pub refused_in : Report → ℕ
refused_in [] = 0
refused_in (m ∷ r) = if is_refusal m.reply then suc (refused_in r) else refused_in r

-- how many were accepted
abbrev pub accepted_in : Report → ℕ
accepted_in [] = 0
accepted_in (m ∷ r) = if is_refusal m.reply then accepted_in r else suc (accepted_in r)

-- the state behind the last command, where the first found this one
abbrev pub state_behind : State → Report → State
state_behind s [] = s
state_behind s (m ∷ r) = state_behind m.state r

-- WHAT IS PRINTED

abbrev pub is_completion : Reply → Bool
is_completion (completed name) = true
is_completion (admitted name assumed) = true
is_completion reply = false

-- of a moment: its block; or the block's first line, where a theorem was completed, whatever it assumes, or a command refused; or nothing
abbrev pub shown : Showing → Moment → List ℕ
shown Blocks m = block m.reply m.state
shown FirstLines m = if is_completion m.reply || is_refusal m.reply then first_line (block m.reply m.state) else []
shown (Summary size) m = []

-- of the moments, in order
abbrev pub bytes_of : Showing → Report → List ℕ
bytes_of showing [] = []
bytes_of showing (m ∷ r) = shown showing m ++ bytes_of showing r

-- what is counted: the commands that were accepted and refused, and those that are kept and the theorems in the last state
abbrev pub tallies_of : Report → Tallies
tallies_of r = record {
  accepted = accepted_in r;
  refused = refused_in r;
  kept = length (state_behind empty r).kept;
  theorems = length (theorems_in (state_behind empty r).declarations);
}

-- behind them all: the line that sums them up, where that stands in place of the blocks
abbrev pub closing : Showing → Report → List ℕ
closing (Summary size) r = summary size (tallies_of r)
closing showing r = []

-- ALL THAT IS PRINTED of a report
abbrev pub printed : Showing → Report → List ℕ
printed showing r = bytes_of showing r ++ closing showing r
