-- The command that the builders make is the one that is defined.
use Rattle.std.proofs.Common.{rules, ◌≡◌, ◌∙◌, ap, ap₂, Some}
use Rattle.std.proofs.lemmas.Result.{IfOk-weaker}
use Rattle.clap.specs.Words.{rule_of, with_rule}
use Rattle.clap.specs.declared.builder.value_parser.ValueParser.TheVariants as vp
use Rattle.ab_line.specs.Command.{quiet, drill, check_cert, file, simple_command}
use Rattle.ab_line.proofs.words.make_command.Goals as goal

pub returns : goal.returns
unfolding simple_command
returns c =
    let quiet_is : rule_of c.action-quiet.result ≡ quiet = search rules in
    let given = c.value_parser-drill.ensures.given in
    let made : c.range.result ≡ vp.Unsigned 1 10000 = rw c.value_parser.ensures at c.range.ensures in
    let parser : c.value_parser-drill.result.value_parser ≡ Some (vp.Unsigned 1 10000) = given.1 ∙ ap Some (given.2 ∙ made) in
    let drill_is : rule_of c.value_parser-drill.result ≡ drill = search rules in
    let check_is : rule_of c.action-check_cert.result ≡ check_cert = search rules in
    let file_is : rule_of c.action-file.result ≡ file = search rules in
    let one = c.in_ok-arg.ensures.shape (search rules) ∙ ap₂ with_rule c.new-5.ensures.app quiet_is in
    let two = c.in_ok-arg-2.ensures.shape (search rules) ∙ ap₂ with_rule one drill_is in
    let three = c.in_ok-arg-3.ensures.shape (search rules) ∙ ap₂ with_rule two check_is in
    IfOk-weaker c.arg-4.result _ _ (λ r added. added.shape (search rules) ∙ ap₂ with_rule three file_is) c.arg-4.ensures
