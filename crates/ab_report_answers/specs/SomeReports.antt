-- THAT A TEXT HAS A REPORT, by some loads from files of which this was told; and where a report is cut short.
use Rattle.std.specs.Prelude.{◌≡◌, ℕ, false, List, ◌∷◌, ◌++◌}
use Rattle.ab_lex.specs.Commands.{Item, ItemsOf, command}
use Rattle.ab_sigmod.specs.FileLoads.{FilesSeen, Load, AreLoads}
use Rattle.ab_states.specs.State.{State, empty}
use Rattle.ab_effect_answers.specs.SomeEffects.{CommandFindsNames}
use Rattle.ab_run.specs.declared.way.Way.{Way}
use Rattle.ab_run.specs.Report.{Report, Reports, ReportOf, has_end, state_behind}

abbrev pub HasReport : Way → List ℕ → FilesSeen → Type 0
HasReport way text before = (loads : List Load) × (after : FilesSeen) × AreLoads before loads after × (r : Report) × ReportOf way text loads r

-- from this state on, some of the items have a report, which doesn't end the run, and the next is a command at which names run out: for what a proof
-- command makes there is none left
pub record StopsShort (way : Way) (s : State) (items : List Item) (before : FilesSeen) : Type 0 where
  pub answered : List Item
  pub bytes : List ℕ
  pub others : List Item
  pub items_are : items ≡ answered ++ command bytes ∷ others
  pub loads : List Load
  pub after : FilesSeen
  pub asked : AreLoads before loads after
  pub report : Report
  pub reports : Reports way s answered loads report
  pub goes_on : has_end way report ≡ false
  pub names_run_out : ¬ CommandFindsNames (state_behind s report) bytes

-- THE REPORT OF THE TEXT IS CUT SHORT
abbrev pub IsCutShort : Way → List ℕ → FilesSeen → Type 0
IsCutShort way text before = (items : List Item) × ItemsOf text items × StopsShort way empty items before
