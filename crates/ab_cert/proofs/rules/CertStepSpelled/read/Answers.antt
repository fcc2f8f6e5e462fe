use Rattle.std.proofs.Common.{◌<◌, ◌^◌, ◌++◌, arith}
use Rattle.std.specs.List.{flat_map}
use Rattle.ab_cert.specs.Pieces.{field_pieces}
use Rattle.ab_cert.proofs.Fields.{rule_within}
use Rattle.ab_cert.proofs.rules.CertStepSpelled.read.Goals as goal

pub returns-then-rule-lt10 : goal.returns-then-rule-lt10
returns-then-rule-lt10 c = λ x rest k e.
    let high = (rule_within x k).1 in
    let long : x.number < 10 ^ 30 = omega (arith, high) in
    let n = c.next_number-rule.ensures x.number (flat_map field_pieces x.fields ++ rest) long e in
    c.read_early.ensures x rest k n.0 n.1

pub returns-then-rule-lt20 : goal.returns-then-rule-lt20
returns-then-rule-lt20 c = λ x rest k e.
    let high = (rule_within x k).1 in
    let long : x.number < 10 ^ 30 = omega (arith, high) in
    let n = c.next_number-rule.ensures x.number (flat_map field_pieces x.fields ++ rest) long e in
    c.read_middle.ensures x rest k n.0 n.1

pub returns-else-rule-lt20 : goal.returns-else-rule-lt20
returns-else-rule-lt20 c = λ x rest k e.
    let high = (rule_within x k).1 in
    let long : x.number < 10 ^ 30 = omega (arith, high) in
    let n = c.next_number-rule.ensures x.number (flat_map field_pieces x.fields ++ rest) long e in
    c.read_late.ensures x rest k n.0 n.1
