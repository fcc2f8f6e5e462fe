-- THE LINE `abella [-q] [--drill N] [--check-cert] [FILE]`, as a simple command in `clap`'s terms.
use Rattle.std.specs.Prelude.{Some, codes}
use Rattle.clap.specs.Words.{App, Rule, new_app, new_rule, with_rule}
use Rattle.clap.specs.declared.builder.action.ArgAction.TheVariants.{Set, SetTrue}
use Rattle.clap.specs.declared.builder.value_parser.ValueParser.TheVariants.{Unsigned}

-- `-q`: 113 is the letter
abbrev pub quiet : Rule
quiet = record (new_rule (codes "quiet")) { short = Some 113; action = Some SetTrue }

-- `--drill N`, a whole number from 1 to 10,000
abbrev pub drill : Rule
drill = record (new_rule (codes "drill")) { long = Some (codes "drill"); action = Some Set; parser = Some (Unsigned 1 10000) }

-- `--check-cert`
abbrev pub check_cert : Rule
check_cert = record (new_rule (codes "check-cert")) { long = Some (codes "check-cert"); action = Some SetTrue }

-- `FILE`
abbrev pub file : Rule
file = record (new_rule (codes "file")) { action = Some Set }

unfoldable pub simple_command : App
simple_command = with_rule (with_rule (with_rule (with_rule (new_app (codes "abella")) quiet) drill) check_cert) file
