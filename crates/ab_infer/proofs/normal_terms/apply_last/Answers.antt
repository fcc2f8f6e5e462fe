use Rattle.std.proofs.Common.{ap, ◌∙◌, ◌∷◌}
use Rattle.std.specs.Prelude.{Some}
use Rattle.std.proofs.lemmas.List.Elements.{All-pop}
use Rattle.ab_norm.proofs.Frame.{typed_on}
use Rattle.ab_infer.specs.Values.{HoldsValue, turned, Popped}
use Rattle.ab_infer.proofs.Turned.{all_turned}
use Rattle.ab_infer.proofs.Means.{values_kept}
use Rattle.ab_infer.proofs.Stepping.{run_application, one_apply}
use Rattle.ab_infer.proofs.normal_terms.apply_last.Goals as goal

pub returns-in_default-pop-clause-advances : goal.returns-in_default-pop-clause-advances
returns-in_default-pop-clause-advances g c = λ base v x rest there here.
    let t = c.args.types.now in
    let s0 = c.args.store.now in
    let popped : Popped t s0 c.pop_term.new.store c.args.stack.now.items c.pop_term.new.stack.items (λ r. r) c.in-Some.argument = rw c.in-Some.is at c.in_ok-argument.ensures.popped in
    one_apply t base v x rest s0 (turned c.args.stack.now.items) popped.value (popped.was ∙ ap (λ l. popped.value ∷ l) c.in_default-pop.ensures.turned) here

pub with_argument-requires-clause-value : goal.with_argument-requires-clause-value
with_argument-requires-clause-value g c =
    (All-pop (HoldsValue c.args.types.now c.pop_term.new.store) c.pop_term.new.stack.items c.pop.new.stack.items (Some c.in-Some-pop.function) c.in-Some-pop.ensures.items c.in_ok-argument.ensures.stack).1

pub returns-in_err-made-clause-stack : goal.returns-in_err-made-clause-stack
returns-in_err-made-clause-stack g c =
    values_kept c.args.types.now c.pop_term.new.store c.with_argument.new.store c.in_err-made.ensures.adds c.pop.new.stack.items
    (All-pop (HoldsValue c.args.types.now c.pop_term.new.store) c.pop_term.new.stack.items c.pop.new.stack.items (Some c.in-Some-pop.function) c.in-Some-pop.ensures.items c.in_ok-argument.ensures.stack).0

pub returns-in_err-made-clause-adds : goal.returns-in_err-made-clause-adds
returns-in_err-made-clause-adds g c = typed_on c.args.types.now c.args.store.now c.pop_term.new.store c.with_argument.new.store c.in_ok-argument.ensures.adds c.in_err-made.ensures.adds

pub returns-clause-advances : goal.returns-clause-advances
returns-clause-advances g c = λ base v x rest there here.
    let t = c.args.types.now in
    let s0 = c.args.store.now in
    let s1 = c.pop_term.new.store in
    let popped : Popped t s0 s1 c.args.stack.now.items c.pop_term.new.stack.items (λ r. r) c.in-Some.argument = rw c.in-Some.is at c.in_ok-argument.ensures.popped in
    run_application t base v x rest s0 s1 c.with_argument.new.store c.in_ok-argument.ensures.adds c.in_ok-made.ensures.adds (turned c.args.stack.now.items) (turned c.pop.new.stack.items)
    popped.value c.in-Some-pop.function c.in_ok-made.made c.in-Some.argument
    (popped.was ∙ ap (λ l. popped.value ∷ l) c.in-Some-pop.ensures.turned)
    (all_turned (HoldsValue t s0) c.args.stack.now.items c.requires.stack) popped.tree c.in_ok-made.ensures.means here

pub returns-clause-stack : goal.returns-clause-stack
returns-clause-stack g c =
    values_kept c.args.types.now c.pop_term.new.store c.with_argument.new.store c.in_ok-made.ensures.adds c.pop.new.stack.items
    (All-pop (HoldsValue c.args.types.now c.pop_term.new.store) c.pop_term.new.stack.items c.pop.new.stack.items (Some c.in-Some-pop.function) c.in-Some-pop.ensures.items c.in_ok-argument.ensures.stack).0

pub returns-clause-adds : goal.returns-clause-adds
returns-clause-adds g c = typed_on c.args.types.now c.args.store.now c.pop_term.new.store c.with_argument.new.store c.in_ok-argument.ensures.adds c.in_ok-made.ensures.adds
