-- THE ENDINGS of a run that comes to no end of its script, each with its line and its status.
use Rattle.std.specs.Prelude.{ℕ, List, [], ◌∷◌, ◌++◌}
use Rattle.ab_run.specs.declared.status.Status.{Status}
use Rattle.ab_run.specs.declared.status.Status.TheVariants.{BadLine, ReadFault, TooLong, NoFile}
use Rattle.ab_run.specs.declared.run_endings.TheConstants.{USAGE, READ_FAULT, TOO_LONG, MISSING}

pub data Ending : Type 0 where
  -- the source failed, or the load of the script's file
  read_fault : Ending
  -- the input, or the script's file, has more bytes than are looked at
  too_long : Ending
  -- there is no file of this name
  missing : List ℕ → Ending
  -- the words are no line of the program
  line_refused : Ending

-- what is printed last: 10 is the line end
abbrev pub last_line : Ending → List ℕ
last_line read_fault = READ_FAULT
last_line too_long = TOO_LONG
last_line (missing name) = MISSING ++ (name ++ 10 ∷ [])
last_line line_refused = USAGE

abbrev pub status_of : Ending → Status
status_of read_fault = ReadFault
status_of too_long = TooLong
status_of (missing name) = NoFile
status_of line_refused = BadLine
