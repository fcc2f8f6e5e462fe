-- HOW A RUN ENDS, by what the line asks for: its status, what stands outside before and after it, and the state that it hands out.
use Rattle.std.specs.Prelude.{◌≡◌, ◌≤◌, ◌<◌, ◌+◌, ◌⊎◌, ℕ, true, false, List, [], ◌∷◌, ◌++◌, length, take, Option, Some, None, IsSomeAnd}
use Rattle.std.specs.FinMap.{get}
use Rattle.ab_lex.specs.Commands.{Item, ItemsOf, HasBlankRest}
use Rattle.ab_io.specs.Count.{Rose}
use Rattle.ab_io.specs.KnownBytes.{Takes, Appends, AppendsFront, AtEnd}
use Rattle.ab_io.specs.Loads.{FileMap, Answer, loaded, missing, failed, too_long}
use Rattle.ab_sigmod.specs.FileLoads.{FilesSeen, Load, IsLoad, AreLoads, longest}
use Rattle.ab_drill.specs.Drill.{script}
use Rattle.ab_line.specs.Requests.{Origin, Request, the_input, the_file, the_drill}
use Rattle.ab_session.specs.ab_states.specs.State.{State, empty}
use Rattle.ab_run.specs.declared.status.Status.{Status}
use Rattle.ab_run.specs.declared.status.Status.TheVariants.{Done, Refused, ReadFault, WriteFault, NoMemory, Unfinished, TooLong}
use Rattle.ab_run.specs.declared.whole_runs.TheConstants.{MAX_INPUT}
use Rattle.ab_run.specs.declared.way.Way.{Way}
use Rattle.ab_run.specs.Status.{number_of}
use Rattle.ab_run.specs.Ways.{way_of}
use Rattle.ab_run.specs.Outside.{Outside}
use Rattle.ab_run.specs.Report.{Report, Reports, ReportOf, bytes_of, closing, printed, refused_in, has_end, state_behind}
use Rattle.ab_run.specs.Endings as ending
use Rattle.ab_run.specs.Endings.{Ending, last_line, status_of}

-- the state that a run hands out, if it does: that behind the last command of this report
abbrev pub HandsOut : Option State → Report → Type 0
HandsOut handed r = handed ≡ Some (state_behind empty r)

-- no proof is open
abbrev pub IsFinished : State → Type 0
IsFinished s = s.attempt ≡ None

-- behind the last command there is no rest: a reply has ended the run, or only blanks and whole comments follow
abbrev pub HasNoRest : Way → List ℕ → Report → Type 0
HasNoRest way text r = (has_end way r ≡ true) ⊎ HasBlankRest text

-- THE STATUS of a script that was run to its end, or to a reply that ends the run, and whose report is this
abbrev pub EndsWith : Status → Way → List ℕ → Report → Type 0
EndsWith Done way text r = (refused_in r ≡ 0) × IsFinished (state_behind empty r) × HasNoRest way text r
EndsWith Refused way text r = 0 < refused_in r
EndsWith Unfinished way text r = (refused_in r ≡ 0) × (¬ IsFinished (state_behind empty r) ⊎ ¬ HasNoRest way text r)
EndsWith s way text r = ⊥

-- THE WHOLE REPORT of this text was printed, by the loads that were made; it was run to its end or to a reply that ends the run, and has this status
pub record WroteAll (way : Way) (status : Status) (text : List ℕ) (left : Option (List ℕ)) (handed : Option State) (before after : Option (List ℕ)) (f f' : FilesSeen) : Type 0 where
  pub loads : List Load
  pub asked : AreLoads f loads f'
  pub report : Report
  pub report_of : ReportOf way text loads report
  pub read : (has_end way report ≡ true) ⊎ AtEnd left
  pub hands_out : HandsOut handed report
  pub wrote : Appends before (printed way.showing report) after
  pub status_is : EndsWith status way text report

-- the blocks of the whole report of this text were printed, none of which ended the run, and this line behind them
pub record WroteReport (way : Way) (text line : List ℕ) (handed : Option State) (before after : Option (List ℕ)) (f f' : FilesSeen) : Type 0 where
  pub loads : List Load
  pub asked : AreLoads f loads f'
  pub report : Report
  pub report_of : ReportOf way text loads report
  pub goes_on : has_end way report ≡ false
  pub hands_out : HandsOut handed report
  pub wrote : Appends before (bytes_of way.showing report ++ line) after

-- a front was printed: some of what is printed of the first items and, where there are no others to answer, of a last line
pub record WroteSome (way : Way) (text : List ℕ) (IsLast : List ℕ → Type 0) (before after : Option (List ℕ)) (f f' : FilesSeen) : Type 0 where
  pub answered : List Item
  pub others : List Item
  pub items_are : ItemsOf text (answered ++ others)
  pub loads : List Load
  pub asked : AreLoads f loads f'
  pub report : Report
  pub reports : Reports way empty answered loads report
  pub line : List ℕ
  pub line_is : (line ≡ []) ⊎ (((others ≡ []) ⊎ (has_end way report ≡ true)) × ((line ≡ closing way.showing report) ⊎ ((has_end way report ≡ false) × IsLast line)))
  pub wrote : AppendsFront before (bytes_of way.showing report ++ line) after

-- A RUN OVER THE INPUT

-- the last line of a run that ends early, with its cause: the source failed, or a byte more was taken than is looked at
abbrev pub IsLastLine : List ℕ → ℕ → ℕ → List ℕ → Type 0
IsLastLine taken reads reads' line =
    ((line ≡ last_line ending.read_fault) × Rose reads reads') ⊎ ((line ≡ last_line ending.too_long) × (length taken ≡ MAX_INPUT + 1))

-- what it has done, by its status: how the bytes taken, what stands outside before and after, and the state that is handed out lie;
-- where there was no memory, the loads are those up to the last command that was answered, and of later ones nothing is told
abbrev pub RanOver : Way → Status → List ℕ → Option State → Outside → Outside → Type 0
RanOver way ReadFault taken handed o o' =
    (length taken ≤ MAX_INPUT) × Rose o.reads o'.reads × WroteReport way taken (last_line ending.read_fault) handed o.written o'.written o.files o'.files
RanOver way WriteFault taken handed o o' =
    Rose o.writes o'.writes × (w : WroteSome way (take MAX_INPUT taken) (IsLastLine taken o.reads o'.reads) o.written o'.written o.files o'.files) × HandsOut handed w.report
RanOver way NoMemory taken handed o o' =
    (handed ≡ None) × (f : FilesSeen) × WroteSome way (take MAX_INPUT taken) (IsLastLine taken o.reads o'.reads) o.written o'.written o.files f
RanOver way TooLong taken handed o o' =
    (length taken ≡ MAX_INPUT + 1) × WroteReport way (take MAX_INPUT taken) (last_line ending.too_long) handed o.written o'.written o.files o'.files
RanOver way status taken handed o o' = (length taken ≤ MAX_INPUT) × WroteAll way status taken o'.left handed o.written o'.written o.files o'.files

-- some bytes were taken from the source, and the status says the rest
pub record Ran (way : Way) (status : Status) (handed : Option State) (o o' : Outside) : Type 0 where
  pub taken : List ℕ
  pub takes : Takes o.left taken o'.left
  pub few : length taken ≤ MAX_INPUT + 1
  pub over : RanOver way status taken handed o o'

-- A RUN OVER A TEXT that is there as a whole, by its status

abbrev pub NoLine : List ℕ → Type 0
NoLine line = ⊥

abbrev pub RanText : Way → List ℕ → Status → Option State → Option (List ℕ) → Option (List ℕ) → ℕ → ℕ → FilesSeen → FilesSeen → Type 0
RanText way text WriteFault handed out out' writes writes' f f' = Rose writes writes' × (w : WroteSome way text NoLine out out' f f') × HandsOut handed w.report
RanText way text NoMemory handed out out' writes writes' f f' = (handed ≡ None) × (g : FilesSeen) × WroteSome way text NoLine out out' f g
RanText way text status handed out out' writes writes' f f' = WroteAll way status text (Some []) handed out out' f f'

-- NO SCRIPT: the line of this ending is all that is printed
abbrev pub WroteLine : Ending → Status → Option State → Option (List ℕ) → Option (List ℕ) → ℕ → ℕ → Type 0
WroteLine e WriteFault handed out out' writes writes' = (handed ≡ None) × Rose writes writes' × AppendsFront out (last_line e) out'
WroteLine e NoMemory handed out out' writes writes' = (handed ≡ None) × AppendsFront out (last_line e) out'
WroteLine e status handed out out' writes writes' = (handed ≡ None) × (status ≡ status_of e) × Appends out (last_line e) out'

-- there was no memory to read the line or the script: nothing is printed
pub record HadNoMemory (status : Status) (handed : Option State) (out out' : Option (List ℕ)) : Type 0 where
  pub status_is : status ≡ NoMemory
  pub none_handed : handed ≡ None
  pub stays : out' ≡ out

-- A RUN OVER A FILE, by what its load answered: its commands ask for files, or no other was loaded
abbrev pub RanLoaded : Way → List ℕ → Answer → Status → Option State → Option (List ℕ) → Option (List ℕ) → ℕ → ℕ → FilesSeen → FilesSeen → Type 0
RanLoaded way name (loaded text) status handed out out' writes writes' f f' = RanText way text status handed out out' writes writes' f f'
RanLoaded way name missing status handed out out' writes writes' f f' = (f' ≡ f) × WroteLine (ending.missing name) status handed out out' writes writes'
RanLoaded way name failed status handed out out' writes writes' f f' = (f' ≡ f) × WroteLine ending.read_fault status handed out out' writes writes'
RanLoaded way name too_long status handed out out' writes writes' f f' = (f' ≡ f) × WroteLine ending.too_long status handed out out' writes writes'

-- the file of this name was loaded first
pub record LoadedScript (way : Way) (name : List ℕ) (status : Status) (handed : Option State) (out out' : Option (List ℕ)) (writes writes' : ℕ) (f f' : FilesSeen) : Type 0 where
  pub answer : Answer
  pub behind : FilesSeen
  pub load : IsLoad f (record { name = name; answer = answer }) behind
  pub ran : RanLoaded way name answer status handed out out' writes writes' behind f'

abbrev pub RanFile : Way → List ℕ → Status → Option State → Option (List ℕ) → Option (List ℕ) → ℕ → ℕ → FilesSeen → FilesSeen → Type 0
RanFile way name status handed out out' writes writes' f f' = LoadedScript way name status handed out out' writes writes' f f' ⊎ HadNoMemory status handed out out'

-- A DRILL: a run over its script
abbrev pub RanDrill : Way → ℕ → Status → Option State → Option (List ℕ) → Option (List ℕ) → ℕ → ℕ → FilesSeen → FilesSeen → Type 0
RanDrill way size status handed out out' writes writes' f f' = RanText way (script size) status handed out out' writes writes' f f' ⊎ HadNoMemory status handed out out'

-- WHAT A RUN HAS DONE, by what the line asks for
abbrev pub RanFor : Way → Origin → Status → Option State → Outside → Outside → Type 0
RanFor way the_input status handed o o' = Ran way status handed o o'
RanFor way (the_file name) status handed o o' = RanFile way name status handed o.written o'.written o.writes o'.writes o.files o'.files
RanFor way (the_drill size) status handed o o' = RanDrill way size status handed o.written o'.written o.writes o'.writes o.files o'.files

abbrev pub RanAsAsked : Option Request → Status → Option State → Outside → Outside → Type 0
RanAsAsked None status handed o o' = WroteLine ending.line_refused status handed o.written o'.written o.writes o'.writes
RanAsAsked (Some q) status handed o o' = RanFor (way_of q) q.origin status handed o o'

-- the status of this number is one of which P is said
abbrev pub EndedBy : ℕ → (Status → Type 0) → Type 0
EndedBy number P = (status : Status) × (number ≡ number_of status) × P status

-- WHERE NOTHING FAILED

-- the script is this text, so far as that is told
abbrev pub IsScript : Origin → List ℕ → Option (List ℕ) → Option FileMap → Type 0
IsScript the_input text left files = (left ≡ Some text) × (length text ≤ MAX_INPUT)
IsScript (the_file name) text left files = IsSomeAnd files (λ m. get m name ≡ Some text) × (length text ≤ longest)
IsScript (the_drill size) text left files = text ≡ script size

-- the load of the script itself
abbrev pub own_load : Origin → List ℕ → List Load
own_load the_input text = []
own_load (the_file name) text = record { name = name; answer = loaded text } ∷ []
own_load (the_drill size) text = []

-- what was written behind the bytes before is all that is printed of this text's report, the state that is handed out is that
-- behind its last command, and the number is that of its status; the loads are those of the script and then of its commands
pub record IsReported (way : Way) (text before : List ℕ) (handed : Option State) (after : Option (List ℕ)) (number : ℕ) (script : List Load) (f f' : FilesSeen) : Type 0 where
  pub loads : List Load
  pub asked : AreLoads f (script ++ loads) f'
  pub report : Report
  pub report_of : ReportOf way text loads report
  pub hands_out : HandsOut handed report
  pub written : after ≡ Some (before ++ printed way.showing report)
  pub status : Status
  pub number_is : number ≡ number_of status
  pub status_is : EndsWith status way text report
