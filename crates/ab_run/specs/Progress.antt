-- How far a run has come: the items that were answered, and those that are to come.
use Rattle.std.specs.Prelude.{◌≡◌, ◌≤◌, ◌||◌, ◌↔◌, ◌+◌, ℕ, Bool, true, false, if◌then◌else◌, nat_lt, List, [], ◌∷◌, ◌++◌, ◌⊎◌, length, Option, Some, None, Result, Ok, Err}
use Rattle.ab_lex.specs.Commands.{Item, ItemsOf, HasBlankRest}
use Rattle.ab_lex.specs.PendingText.{Pending, Awaits, SameItems, NextItem}
use Rattle.ab_lex.proofs.Awaiting.{items_after}
use Rattle.ab_io.specs.Count.{Rose, last_count}
use Rattle.ab_io.specs.KnownBytes.{Takes, Appends, AppendsFront, AtEnd}
use Rattle.ab_io.specs.declared.sink.WriteFault.{WriteFault}
use Rattle.ab_io.specs.declared.sink.WriteFault.TheVariants.{Failed, Memory}
use Rattle.ab_sigmod.specs.FileLoads.{FilesSeen, Load, AreLoads}
use Rattle.ab_formulas.specs.Declarations.{theorems_in}
use Rattle.ab_drill.specs.Summary.{summary}
use Rattle.ab_session.specs.ab_states.specs.State.{State, empty}
use Rattle.ab_session.specs.ab_states.specs.Reply.{Reply, is_refusal}
use Rattle.ab_session.specs.Contents.{state_of}
use Rattle.ab_run.specs.declared.input.ReadStop.{ReadStop}
use Rattle.ab_run.specs.declared.input.ReadStop.TheVariants.{Failed as ReadFailed, Memory as ReadMemory}
use Rattle.ab_run.specs.declared.output.Progress.{Progress}
use Rattle.ab_run.specs.declared.whole_runs.TheConstants.{MAX_INPUT}
use Rattle.ab_run.specs.declared.status.Status.{Status}
use Rattle.ab_run.specs.declared.status.Status.TheVariants.{Done, Refused, WriteFault as FaultStatus, NoMemory, Unfinished}
use Rattle.ab_run.specs.declared.way.Showing.{Showing}
use Rattle.ab_run.specs.declared.way.Showing.TheVariants.{Summary}
use Rattle.ab_run.specs.declared.way.Way.{Way}
use Rattle.ab_run.specs.Report.{Moment, Report, Reports, Replies, is_end, shown, bytes_of, closing, has_end, state_behind}
use Rattle.ab_run.specs.Outside.{Outside}
use Rattle.ab_run.specs.Outcome.{Ran, RanText}

-- how a run stands between two commands: the session's state, how many commands were accepted and refused, and whether a reply
-- has ended the run
pub record Standing : Type 0 where
  pub state : State
  pub accepted : ℕ
  pub refused : ℕ
  pub ended : Bool

-- how a run begins
abbrev pub beginning : Standing
beginning = record { state = empty; accepted = 0; refused = 0; ended = false }

-- the items that a splitter still gives, by the bytes that come
abbrev pub to_come : Pending → List ℕ → List Item
to_come p more = items_after p more

-- one more, up to the last number of 64 bits
abbrev pub one_more : ℕ → ℕ
one_more n = if nat_lt n last_count then n + 1 else n

abbrev pub refused_with : ℕ → Reply → ℕ
refused_with n reply = if is_refusal reply then one_more n else n

abbrev pub accepted_with : ℕ → Reply → ℕ
accepted_with n reply = if is_refusal reply then n else one_more n

-- counts that go on over a report
abbrev pub refused_on : ℕ → Report → ℕ
refused_on n [] = n
refused_on n (m ∷ r) = refused_on (refused_with n m.reply) r

abbrev pub accepted_on : ℕ → Report → ℕ
accepted_on n [] = n
accepted_on n (m ∷ r) = accepted_on (accepted_with n m.reply) r

-- the line that sums up a drill, by what is counted; nothing in another run
abbrev pub closing_by : Showing → Standing → List ℕ
closing_by (Summary size) m = summary size (record { accepted = m.accepted; refused = m.refused; kept = length m.state.kept; theorems = length (theorems_in m.state.declarations) })
closing_by showing m = []

-- nothing is printed behind the answers of this run
abbrev pub IsPlain : Way → Type 0
IsPlain way = (r : Report) → closing way.showing r ≡ []

-- the standing behind a report
abbrev pub standing_behind : Way → Standing → Report → Standing
standing_behind way m r = record { state = state_behind m.state r; accepted = accepted_on m.accepted r; refused = refused_on m.refused r; ended = m.ended || has_end way r }

-- from one moment to another: these items were answered, what is shown of them printed, and those are to come
pub record Answered (way : Way) (out out' : Option (List ℕ)) (f f' : FilesSeen) (from to : List ℕ → List Item) (m m' : Standing) : Type 0 where
  pub answered : List Item
  pub loads : List Load
  pub asked : AreLoads f loads f'
  pub report : Report
  pub reports : Reports way m.state answered loads report
  pub standing_is : m' ≡ standing_behind way m report
  pub items_are : (more : List ℕ) → from more ≡ answered ++ to more
  pub wrote : Appends out (bytes_of way.showing report) out'

-- some items were answered, and a front of what is shown of them was printed
pub record AnsweredSome (way : Way) (out out' : Option (List ℕ)) (f f' : FilesSeen) (from : List ℕ → List Item) (s : State) : Type 0 where
  pub answered : List Item
  pub others : List ℕ → List Item
  pub loads : List Load
  pub asked : AreLoads f loads f'
  pub report : Report
  pub reports : Reports way s answered loads report
  pub items_are : (more : List ℕ) → from more ≡ answered ++ others more
  pub wrote : AppendsFront out (bytes_of way.showing report) out'

-- the same, and the state is the one behind them
abbrev pub AnsweredUpTo : Way → Option (List ℕ) → Option (List ℕ) → FilesSeen → FilesSeen → (List ℕ → List Item) → State → State → Type 0
AnsweredUpTo way out out' f f' from s s' = (x : AnsweredSome way out out' f f' from s) × (s' ≡ state_behind s x.report)

abbrev pub moment : Reply → State → Moment
moment reply s = record { reply = reply; state = s }

-- the text is what is shown of the answer to the next item
pub record AnswersItem (way : Way) (bytes : List ℕ) (f f' : FilesSeen) (m m' : Standing) (p p' : Pending) : Type 0 where
  pub item : Item
  pub loads : List Load
  pub asked : AreLoads f loads f'
  pub reply : Reply
  pub replies : Replies m.state item loads (moment reply m'.state)
  pub accepted_is : m'.accepted ≡ accepted_with m.accepted reply
  pub refused_is : m'.refused ≡ refused_with m.refused reply
  pub ended_is : m'.ended ≡ (m.ended || is_end way reply)
  pub text_is : bytes ≡ shown way.showing (moment reply m'.state)
  pub items_are : NextItem p item p'

-- the next item has this reply
pub record RepliesItem (reply : Reply) (f f' : FilesSeen) (s s' : State) (p p' : Pending) : Type 0 where
  pub item : Item
  pub loads : List Load
  pub asked : AreLoads f loads f'
  pub replies : Replies s item loads (moment reply s')
  pub items_are : NextItem p item p'

-- no item is ready, and nothing has changed
pub record StaysReady (f f' : FilesSeen) (s s' : State) (p p' : Pending) : Type 0 where
  pub state_is : s' ≡ s
  pub files_stay : f' ≡ f
  pub none : Awaits p' [] []
  pub items_are : SameItems p p'

-- the reply to the next item, or none is ready
abbrev pub RepliesNext : Option Reply → FilesSeen → FilesSeen → State → State → Pending → Pending → Type 0
RepliesNext (Some reply) f f' s s' p p' = RepliesItem reply f f' s s' p p'
RepliesNext None f f' s s' p p' = StaysReady f f' s s' p p'

-- no item is ready
pub record HasNone (f f' : FilesSeen) (m m' : Standing) (p p' : Pending) : Type 0 where
  pub standing_is : m' ≡ m
  pub files_stay : f' ≡ f
  pub none : Awaits p' [] []
  pub items_are : SameItems p p'

abbrev pub standing_of : Progress → Standing
standing_of p = record { state = state_of p.session; accepted = p.accepted; refused = p.refused; ended = p.ended }

-- what is shown of the next answer, or none is ready
abbrev pub AnswersNext : Way → Option (List ℕ) → FilesSeen → FilesSeen → Standing → Standing → Pending → Pending → Type 0
AnswersNext way (Some bytes) f f' m m' p p' = AnswersItem way bytes f f' m m' p p'
AnswersNext way None f f' m m' p p' = HasNone f f' m m' p p'

-- every item that was ready was answered, up to a reply that ends the run; or a write has failed, or memory was wanted
abbrev pub AnsweredReady : Way → Result (Unit {0}) WriteFault → Option (List ℕ) → Option (List ℕ) → FilesSeen → FilesSeen → Standing → Standing → Pending → Pending → Type 0
AnsweredReady way (Ok done) out out' f f' m m' p p' = Answered way out out' f f' (to_come p) (to_come p') m m' × (m'.ended ≡ false → Awaits p' [] [])
AnsweredReady way (Err Failed) out out' f f' m m' p p' = AnsweredUpTo way out out' f f' (to_come p) m.state m'.state
AnsweredReady way (Err (Memory e)) out out' f f' m m' p p' = (g : FilesSeen) × AnsweredSome way out out' f g (to_come p) m.state

-- a piece was read and fed
pub record FedPiece (count : ℕ) (left left' : Option (List ℕ)) (p p' : Pending) : Type 0 where
  pub bytes : List ℕ
  pub length_is : length bytes ≡ count
  pub takes : Takes left bytes left'
  pub text_is : p'.text ≡ p.text ++ bytes
  pub in_long_is : p'.in_long ≡ p.in_long
  pub at_end : count ≡ 0 → AtEnd left

-- some bytes were taken, and not more than these
pub record TookPiece (most : ℕ) (left left' : Option (List ℕ)) : Type 0 where
  pub bytes : List ℕ
  pub few : length bytes ≤ most
  pub takes : Takes left bytes left'

abbrev pub ReadStopped : ReadStop → ℕ → Option (List ℕ) → Option (List ℕ) → ℕ → ℕ → Type 0
ReadStopped ReadFailed most left left' reads reads' = (left' ≡ left) × Rose reads reads'
ReadStopped ReadMemory most left left' reads reads' = TookPiece most left left'

-- between two pieces: what was taken, that the items that ended in it were answered, and that those to come are the others
pub record Running (way : Way) (left left' out out' : Option (List ℕ)) (f f' : FilesSeen) (p : Pending) (m : Standing) (count : ℕ) : Type 0 where
  pub taken : List ℕ
  pub takes : Takes left taken left'
  pub counted : length taken ≡ count
  pub few : count ≤ MAX_INPUT
  -- the items of the whole text, by the bytes that come
  pub all_items : List ℕ → List Item
  pub all_are : (more : List ℕ) → ItemsOf (taken ++ more) (all_items more)
  pub answered : Answered way out out' f f' all_items (to_come p) beginning m
  pub goes_on : m.ended ≡ false
  pub none_ready : Awaits p [] []
  pub blank_is : (more : List ℕ) → HasBlankRest (p.text ++ more) ↔ HasBlankRest (taken ++ more)

-- the last line was written, or the status says why not
abbrev pub EndedWith : Status → Status → List ℕ → Option (List ℕ) → Option (List ℕ) → ℕ → ℕ → Type 0
EndedWith result status line out out' writes writes' =
    ((result ≡ status) × Appends out line out')
    ⊎ (((result ≡ FaultStatus) × AppendsFront out line out' × Rose writes writes')
    ⊎ ((result ≡ NoMemory) × AppendsFront out line out'))

-- the state that a run hands out, by its status
abbrev pub handed_by : Status → State → Option State
handed_by NoMemory s = None
handed_by status s = Some s

-- the run has ended so, with this state
abbrev pub RanTo : Way → Status → State → Outside → Outside → Type 0
RanTo way status s o o' = Ran way status (handed_by status s) o o'

-- the same of a text that is there as a whole
abbrev pub RanTextTo : Way → List ℕ → Status → State → Option (List ℕ) → Option (List ℕ) → ℕ → ℕ → FilesSeen → FilesSeen → Type 0
RanTextTo way text status s out out' writes writes' f f' = RanText way text status (handed_by status s) out out' writes writes' f f'

-- the status of a script that was run to its end or to a reply that ends the run: whether a command was refused, no proof is open, and nothing
-- but blanks is left
abbrev pub status_at_end : Bool → Bool → Bool → Status
status_at_end true finished blank = Refused
status_at_end false true true = Done
status_at_end false true false = Unfinished
status_at_end false false blank = Unfinished
