use Rattle.std.specs.Prelude.{Some, None}
use Rattle.std.proofs.lemmas.List.Elements.{All-pop}
use Rattle.ab_infer.specs.Values.{HoldsValue}
use Rattle.ab_infer.proofs.Means.{values_kept}
use Rattle.ab_infer.proofs.value.pop_term.Goals as goal

pub finish-requires-clause-value : goal.finish-requires-clause-value
finish-requires-clause-value c =
    (All-pop (HoldsValue c.args.types.now c.args.store.now) c.args.stack.now.items c.pop.new.stack.items (Some c.in-Some.value) c.in-Some.ensures.items c.requires.stack).1

pub returns-in_err-term-in-Some-clause-stack : goal.returns-in_err-term-in-Some-clause-stack
returns-in_err-term-in-Some-clause-stack c =
    values_kept c.args.types.now c.args.store.now c.finish.new.store c.in_err-term-in-Some.ensures.adds c.pop.new.stack.items
    (All-pop (HoldsValue c.args.types.now c.args.store.now) c.args.stack.now.items c.pop.new.stack.items (Some c.in-Some.value) c.in-Some.ensures.items c.requires.stack).0

pub returns-in_ok-term-in-Some-clause-stack : goal.returns-in_ok-term-in-Some-clause-stack
returns-in_ok-term-in-Some-clause-stack c =
    values_kept c.args.types.now c.args.store.now c.finish.new.store c.in_ok-term-in-Some.ensures.adds c.pop.new.stack.items
    (All-pop (HoldsValue c.args.types.now c.args.store.now) c.args.stack.now.items c.pop.new.stack.items (Some c.in-Some.value) c.in-Some.ensures.items c.requires.stack).0

pub returns-in-None-clause-stack : goal.returns-in-None-clause-stack
returns-in-None-clause-stack c =
    (All-pop (HoldsValue c.args.types.now c.args.store.now) c.args.stack.now.items c.pop.new.stack.items None c.in-None.ensures.items c.requires.stack).0
