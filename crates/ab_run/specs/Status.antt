-- The numbers of the statuses.
use Rattle.std.specs.Prelude.{ℕ}
use Rattle.ab_run.specs.declared.status.Status.{Status}
use Rattle.ab_run.specs.declared.status.Status.TheVariants.{Done, Refused, BadLine, ReadFault, WriteFault, NoMemory, Unfinished, TooLong, NoFile}

abbrev pub number_of : Status → ℕ
number_of Done = 0
number_of Refused = 1
number_of BadLine = 2
number_of ReadFault = 3
number_of WriteFault = 4
number_of NoMemory = 5
number_of Unfinished = 6
number_of TooLong = 7
number_of NoFile = 8
