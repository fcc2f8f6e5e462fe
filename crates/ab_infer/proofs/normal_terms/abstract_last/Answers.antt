use Rattle.ab_norm.specs.ab_types.specs.Ids.{type_of}
use Rattle.ab_term.specs.Terms.{lam}
use Rattle.ab_infer.specs.Values.{HoldsValue, turned, Popped}
use Rattle.ab_infer.proofs.Turned.{all_turned}
use Rattle.ab_infer.proofs.Stepping.{run_abstraction}
use Rattle.ab_infer.proofs.normal_terms.abstract_last.Goals as goal

pub returns-clause-advances : goal.returns-clause-advances
returns-clause-advances c = λ base v n p at x rest there here.
    let t = c.args.types.now in
    let s0 = c.args.store.now in
    let s1 = c.abstraction.new.store in
    let popped : Popped t s0 s1 c.args.stack.now.items c.abstraction.new.stack.items (lam (type_of t c.args.ty) c.args.name.now) c.in-Some.made = rw c.in-Some.is at c.in_ok-made.ensures.popped in
    run_abstraction t base v x rest s0 s1 c.in_ok-made.ensures.adds c.args.name.now n p (turned c.args.stack.now.items) (turned c.abstraction.new.stack.items) popped.value (type_of t c.args.ty) c.in-Some.made at popped.was
    (all_turned (HoldsValue t s0) c.args.stack.now.items c.requires.stack) popped.tree here
