use Rattle.std.proofs.Common.{◌≡◌, ◌+◌, ◌-◌, ◌≤◌, ◌∙◌, subst, arith}
use Rattle.ab_lex.proofs.Beginning.{begins_before_fault}
use Rattle.ab_command.specs.CommandReadings.{no_token}
use Rattle.ab_command.proofs.command_reader.no_token.Goals as goal

pub overflow_sub-result : goal.overflow_sub-result
overflow_sub-result c = subst (λ n. c.first_place.result ≤ n) c.requires.2 (begins_before_fault c.first_place.ensures c.requires.1)

pub returns : goal.returns
returns c =
    let l : c.first_place.result ≤ c.args.place = subst (λ n. c.first_place.result ≤ n) c.requires.2 (begins_before_fault c.first_place.ensures c.requires.1) in
    let e : c.args.place ≡ c.first_place.result + (c.args.place - c.first_place.result) = omega arith in
    λ proving. no_token _ (record { start = c.first_place.result; begins = c.first_place.ensures; fault = c.requires.0; fault_is = c.requires.1; place_is = c.requires.2 ∙ e })
