-- What the program's values stand for: options and requests with the names of files as texts.
use Rattle.std.specs.Prelude.{option_map}
use Rattle.ab_line.specs.Requests.{Options, Origin, Request, the_input, the_file, the_drill}
use Rattle.ab_line.specs.declared.line.Line.{Line}
use Rattle.ab_line.specs.declared.line.Script.{Script}
use Rattle.ab_line.specs.declared.line.Script.TheVariants.{Input, File, Drill}
use Rattle.ab_line.specs.declared.words.LineOptions.{LineOptions}

abbrev pub options_of : LineOptions → Options
options_of o = record { quiet = o.quiet; drill = o.drill; check_cert = o.check_cert; file = option_map (λ name. name.now) o.file }

abbrev pub origin_of : Script → Origin
origin_of Input = the_input
origin_of (File name) = the_file name.now
origin_of (Drill size) = the_drill size

abbrev pub request_of_line : Line → Request
request_of_line line = record { quiet = line.quiet; origin = origin_of line.script }
