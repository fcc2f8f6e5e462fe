-- WHAT THE WORDS ASK FOR, by `clap`'s own functions of the words; where they ask for nothing, the line is refused.
use Rattle.std.specs.Prelude.{ℕ, Bool, false, List, Option, Some, None, option_map, codes, bytes_eq, if◌then◌else◌}
use Rattle.std.specs.Option.{option_map_or}
use Rattle.std.specs.Str.Parse.{digits_value, without_leading_plus}
use Rattle.clap.specs.Words.{Row, Text, fault_of, first_of, matches_of}
use Rattle.clap.specs.Walk.{is_empty}
use Rattle.ab_line.specs.Command.{simple_command}

-- the options, whether or not they may stand together
pub record Options : Type 0 where
  pub quiet : Bool
  pub drill : Option ℕ
  pub check_cert : Bool
  pub file : Option Text

-- whether a flag is set, by its value
abbrev pub is_set : Option Text → Bool
is_set value = option_map_or (λ t. bytes_eq t (codes "true")) value false

-- the number that is written in a text of digits, with or without a plus in front
abbrev pub number_of : Text → ℕ
number_of t = digits_value 10 (without_leading_plus t)

abbrev pub options_in : List Row → Options
options_in rows = record {
  quiet = is_set (first_of (codes "quiet") rows);
  drill = option_map number_of (first_of (codes "drill") rows);
  check_cert = is_set (first_of (codes "check-cert") rows);
  file = first_of (codes "file") rows;
}

-- the options that the words give, the program's name first; none where `clap` finds a fault, also a request for help
abbrev pub options_of_words : List Text → Option Options
options_of_words words = if is_empty (fault_of simple_command words) then Some (options_in (matches_of simple_command words)) else None

-- where the script comes from
pub data Origin : Type 0 where
  the_input : Origin
  the_file : Text → Origin
  the_drill : ℕ → Origin

pub record Request : Type 0 where
  pub quiet : Bool
  pub origin : Origin

-- by the drill and the file, which don't stand together
abbrev pub origin_by : Option ℕ → Option Text → Option Origin
origin_by None None = Some the_input
origin_by None (Some name) = Some (the_file name)
origin_by (Some size) None = Some (the_drill size)
origin_by (Some size) (Some name) = None

-- certificates aren't checked yet
abbrev pub request_by : Option Options → Option Request
request_by None = None
request_by (Some options) = if options.check_cert then None else option_map (λ origin. record { quiet = options.quiet; origin = origin }) (origin_by options.drill options.file)

-- THE REQUEST OF THE WORDS, the program's name first
abbrev pub request_of_words : List Text → Option Request
request_of_words words = request_by (options_of_words words)
