use Rattle.std.proofs.Common.{◌≡◌, [], ◌∷◌, ap, ◌∙◌, sym, subst}
use Rattle.std.proofs.lemmas.List.Elements.{All-nil, All-cons}
use Rattle.ab_norm.proofs.Frame.{typed_on}
use Rattle.ab_norm.specs.ab_store.specs.Trees.{Holds}
use Rattle.ab_norm.specs.ab_store.specs.declared.node.Head.TheVariants.{Logic}
use Rattle.ab_norm.specs.ab_store.specs.declared.node.Logical.TheVariants.{Equal}
use Rattle.ab_infer.specs.declared.value.Value.TheVariants.{Given}
use Rattle.ab_infer.specs.Values.{HoldsValue, turned, Popped, Going}
use Rattle.ab_infer.proofs.Turned.{all_turned}
use Rattle.ab_infer.proofs.Stepping.{run_equation, one_equal}
use Rattle.ab_infer.proofs.normal_terms.equate_last.Goals as goal

pub returns-in_err-left-clause-adds : goal.returns-in_err-left-clause-adds
returns-in_err-left-clause-adds c = typed_on c.args.types.now c.args.store.now c.pop_term.new.store c.pop_term-2.new.store c.in_ok-right.ensures.adds c.in_err-left.ensures.adds

pub returns-in_default-2-clause-advances : goal.returns-in_default-2-clause-advances
returns-in_default-2-clause-advances c = λ base v n at x rest there here.
    let t = c.args.types.now in
    let s0 = c.args.store.now in
    let popped : Popped t s0 c.pop_term.new.store c.args.stack.now.items c.pop_term.new.stack.items (λ r. r) c.in-Some.right = rw c.in-Some.is at c.in_ok-right.ensures.popped in
    let none : turned c.pop_term.new.stack.items ≡ [] = rw c.in_default-2.is at c.in_ok-left.ensures.popped in
    one_equal t base v x rest s0 n (turned c.args.stack.now.items) popped.value (popped.was ∙ ap (λ l. popped.value ∷ l) none) here

pub returns-in_default-2-clause-adds : goal.returns-in_default-2-clause-adds
returns-in_default-2-clause-adds c = typed_on c.args.types.now c.args.store.now c.pop_term.new.store c.pop_term-2.new.store c.in_ok-right.ensures.adds c.in_ok-left.ensures.adds

pub returns-in_err-sides-clause-adds : goal.returns-in_err-sides-clause-adds
returns-in_err-sides-clause-adds c = typed_on c.args.types.now c.args.store.now c.pop_term.new.store c.pop_term-2.new.store c.in_ok-right.ensures.adds c.in_ok-left.ensures.adds

pub returns-clause-advances : goal.returns-clause-advances
returns-clause-advances c = λ base v n at x rest there here.
    let t = c.args.types.now in
    let s0 = c.args.store.now in
    let s1 = c.pop_term.new.store in
    let s2 = c.pop_term-2.new.store in
    let after = turned c.pop_term-2.new.stack.items in
    let last : Popped t s0 s1 c.args.stack.now.items c.pop_term.new.stack.items (λ r. r) c.in-Some.right = rw c.in-Some.is at c.in_ok-right.ensures.popped in
    let first : Popped t s1 s2 c.pop_term.new.stack.items c.pop_term-2.new.stack.items (λ r. r) c.in-Some-2.left = rw c.in-Some-2.is at c.in_ok-left.ensures.popped in
    subst (λ l. Going t s2 base v x rest (Given (Logic (Equal c.args.side)) c.args.prop l ∷ after)) (sym c.in_ok-sides.ensures)
    (run_equation t base v x rest s0 s1 s2 c.in_ok-right.ensures.adds c.in_ok-left.ensures.adds n (turned c.args.stack.now.items) after last.value first.value c.in-Some.right c.in-Some-2.left c.args.side c.args.prop
    at c.requires.prop (last.was ∙ ap (λ l. last.value ∷ l) first.was) (all_turned (HoldsValue t s0) c.args.stack.now.items c.requires.stack)
    last.held last.tree first.tree here)

pub returns-clause-held : goal.returns-clause-held
returns-clause-held c =
    let t = c.args.types.now in
    let s0 = c.args.store.now in
    let s1 = c.pop_term.new.store in
    let s2 = c.pop_term-2.new.store in
    let last : Popped t s0 s1 c.args.stack.now.items c.pop_term.new.stack.items (λ r. r) c.in-Some.right = rw c.in-Some.is at c.in_ok-right.ensures.popped in
    let first : Popped t s1 s2 c.pop_term.new.stack.items c.pop_term-2.new.stack.items (λ r. r) c.in-Some-2.left = rw c.in-Some-2.is at c.in_ok-left.ensures.popped in
    let adds = c.in_ok-left.ensures.adds in (
      tt,
      c.requires.side,
      c.requires.prop_held,
      rw c.in_ok-sides.ensures (All-cons (Holds s2) c.in-Some-2.left (c.in-Some.right ∷ []) first.held (All-cons (Holds s2) c.in-Some.right [] (adds.before.ids c.in-Some.right last.held) (All-nil (Holds s2)))),
    )

pub returns-clause-adds : goal.returns-clause-adds
returns-clause-adds c = typed_on c.args.types.now c.args.store.now c.pop_term.new.store c.pop_term-2.new.store c.in_ok-right.ensures.adds c.in_ok-left.ensures.adds
