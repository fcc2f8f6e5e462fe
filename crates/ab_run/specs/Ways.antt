-- HOW A RUN GOES OVER ITS SCRIPT, by what the line asks for.
use Rattle.std.specs.Prelude.{Bool, true, false, Option, Some, None, if◌then◌else◌}
use Rattle.ab_line.specs.Requests.{Origin, Request, the_input, the_file, the_drill}
use Rattle.ab_run.specs.declared.way.Showing.{Showing}
use Rattle.ab_run.specs.declared.way.Showing.TheVariants.{Blocks, FirstLines, Summary}
use Rattle.ab_run.specs.declared.way.Way.{Way}

-- a run over a file ends at the first refusal
abbrev pub stops_over : Origin → Bool
stops_over the_input = false
stops_over (the_file name) = true
stops_over (the_drill size) = false

-- a drill is summed up in one line; of another run the blocks are printed, or of a quiet one their first lines
abbrev pub showing_for : Bool → Origin → Showing
showing_for quiet the_input = if quiet then FirstLines else Blocks
showing_for quiet (the_file name) = if quiet then FirstLines else Blocks
showing_for quiet (the_drill size) = Summary size

abbrev pub way_of : Request → Way
way_of q = record { stops = stops_over q.origin; showing = showing_for q.quiet q.origin }

abbrev pub IsInputOf : Origin → Type 0
IsInputOf the_input = Unit {0}
IsInputOf (the_file name) = ⊥
IsInputOf (the_drill size) = ⊥

-- the script is the input
abbrev pub IsInput : Option Request → Type 0
IsInput None = ⊥
IsInput (Some q) = IsInputOf q.origin
