use Rattle.std.proofs.Common.{map, ap, ◌∙◌, arith}
use Rattle.std.proofs.lemmas.List.{take_all}
use Rattle.ab_infer.specs.Outcomes.{number_of}
use Rattle.ab_infer.proofs.Numbers.{are_numbers, one_more}
use Rattle.ab_infer.proofs.ids.numbers.Goals as goal

pub loop-name-preserved : goal.loop-name-preserved
loop-name-preserved c =
    one_more c.args.names.now c.loop-name.found.items c.push.new.self.items c.loop-name.name-index c.name-item.result c.number.result c.loop-name.invariant c.loop-name-test.true c.name-item.is c.number.ensures
    c.in_ok-push.ensures.items

pub returns : goal.returns
returns c =
    let l = c.loop-name in
    are_numbers c.args.names.now l.found.items (l.invariant ∙ ap (map number_of) (take_all l.name-index c.args.names.now (omega (arith, l.auto.name-index-end, c.loop-name-test.false))))
