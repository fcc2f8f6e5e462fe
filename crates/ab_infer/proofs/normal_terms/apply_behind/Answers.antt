use Rattle.std.proofs.Common.{◌≡◌, [], ap, ◌∙◌, ◌∷◌}
use Rattle.std.specs.Prelude.{Some}
use Rattle.std.proofs.lemmas.List.Elements.{All-pop}
use Rattle.ab_norm.proofs.Frame.{typed_on}
use Rattle.ab_infer.specs.Values.{HoldsValue, turned, Popped}
use Rattle.ab_infer.proofs.Turned.{all_turned}
use Rattle.ab_infer.proofs.Means.{values_kept, value_kept}
use Rattle.ab_infer.proofs.Stepping.{run_application_behind, none_behind, one_behind}
use Rattle.ab_infer.proofs.normal_terms.apply_behind.Goals as goal

pub returns-in_default-clause-advances : goal.returns-in_default-clause-advances
returns-in_default-clause-advances g c = λ base v x rest there here.
    none_behind c.args.types.now base v x rest c.args.store.now (turned c.args.stack.now.items) c.in_default.ensures.turned here

pub pop_term-requires-clause-stack : goal.pop_term-requires-clause-stack
pop_term-requires-clause-stack g c =
    (All-pop (HoldsValue c.args.types.now c.args.store.now) c.args.stack.now.items c.pop.new.stack.items (Some c.in-Some.function) c.in-Some.ensures.items c.requires.stack).0

pub returns-in_default-2-clause-advances : goal.returns-in_default-2-clause-advances
returns-in_default-2-clause-advances g c = λ base v x rest there here.
    let none : turned c.pop.new.stack.items ≡ [] = rw c.in_default-2.is at c.in_ok-argument.ensures.popped in
    one_behind c.args.types.now base v x rest c.args.store.now (turned c.args.stack.now.items) c.in-Some.function
    (c.in-Some.ensures.turned ∙ ap (λ l. c.in-Some.function ∷ l) none) here

pub with_argument-requires-clause-value : goal.with_argument-requires-clause-value
with_argument-requires-clause-value g c =
    value_kept c.args.types.now c.args.store.now c.pop_term.new.store c.in_ok-argument.ensures.adds c.in-Some.function
    (All-pop (HoldsValue c.args.types.now c.args.store.now) c.args.stack.now.items c.pop.new.stack.items (Some c.in-Some.function) c.in-Some.ensures.items c.requires.stack).1

pub returns-in_err-made-clause-stack : goal.returns-in_err-made-clause-stack
returns-in_err-made-clause-stack g c =
    values_kept c.args.types.now c.pop_term.new.store c.with_argument.new.store c.in_err-made.ensures.adds c.pop_term.new.stack.items c.in_ok-argument.ensures.stack

pub returns-in_err-made-clause-adds : goal.returns-in_err-made-clause-adds
returns-in_err-made-clause-adds g c = typed_on c.args.types.now c.args.store.now c.pop_term.new.store c.with_argument.new.store c.in_ok-argument.ensures.adds c.in_err-made.ensures.adds

pub returns-clause-advances : goal.returns-clause-advances
returns-clause-advances g c = λ base v x rest there here.
    let t = c.args.types.now in
    let s0 = c.args.store.now in
    let s1 = c.pop_term.new.store in
    let popped : Popped t s0 s1 c.pop.new.stack.items c.pop_term.new.stack.items (λ r. r) c.in-Some-2.argument = rw c.in-Some-2.is at c.in_ok-argument.ensures.popped in
    run_application_behind t base v x rest s0 s1 c.with_argument.new.store c.in_ok-argument.ensures.adds c.in_ok-made.ensures.adds (turned c.args.stack.now.items) (turned c.pop_term.new.stack.items)
    c.in-Some.function popped.value c.in_ok-made.made c.in-Some-2.argument
    (c.in-Some.ensures.turned ∙ ap (λ l. c.in-Some.function ∷ l) popped.was)
    (all_turned (HoldsValue t s0) c.args.stack.now.items c.requires.stack) popped.tree c.in_ok-made.ensures.means here

pub returns-clause-stack : goal.returns-clause-stack
returns-clause-stack g c =
    values_kept c.args.types.now c.pop_term.new.store c.with_argument.new.store c.in_ok-made.ensures.adds c.pop_term.new.stack.items c.in_ok-argument.ensures.stack

pub returns-clause-adds : goal.returns-clause-adds
returns-clause-adds g c = typed_on c.args.types.now c.args.store.now c.pop_term.new.store c.with_argument.new.store c.in_ok-argument.ensures.adds c.in_ok-made.ensures.adds
