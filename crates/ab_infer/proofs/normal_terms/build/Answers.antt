use Rattle.std.proofs.Common.{◌≡◌, suc, ◌∷◌, drop, sym, ap, subst, ◌∙◌, add-one, arith}
use Rattle.std.proofs.lemmas.List.Elements.{All-push}
use Rattle.ab_norm.proofs.Frame.{typed_on, if_ok}
use Rattle.ab_inference.specs.Programs.{items_of}
use Rattle.ab_inference.specs.Verdicts.{types_found}
use Rattle.ab_infer.specs.Values.{HoldsValue, Whole, Going, turned}
use Rattle.ab_infer.proofs.Turned.{turned_last, nothing_behind}
use Rattle.ab_infer.proofs.Stepping.{go_on, ended}
use Rattle.ab_infer.proofs.normal_terms.build.Goals as goal

pub returns-in_err-value-clause-adds : goal.returns-in_err-value-clause-adds
returns-in_err-value-clause-adds g c = typed_on c.args.types.now c.args.store.now c.loop-step_of.store c.build_step.new.store c.loop-step_of.invariant.adds c.in_err-value.ensures.adds

pub returns-in_default-clause-adds : goal.returns-in_default-clause-adds
returns-in_default-clause-adds g c = typed_on c.args.types.now c.args.store.now c.loop-step_of.store c.build_step.new.store c.loop-step_of.invariant.adds c.in_ok-value.ensures.adds

pub returns-in_err-push-clause-adds : goal.returns-in_err-push-clause-adds
returns-in_err-push-clause-adds g c = typed_on c.args.types.now c.args.store.now c.loop-step_of.store c.build_step.new.store c.loop-step_of.invariant.adds c.in_ok-value.ensures.adds

pub returns-clause-adds : goal.returns-clause-adds
returns-clause-adds g c = typed_on c.args.types.now c.args.store.now c.loop-step_of.store c.pop_term.new.store c.loop-step_of.invariant.adds c.pop_term.ensures.adds

pub returns-in_default-clause-built : goal.returns-in_default-clause-built
returns-in_default-clause-built g c = λ made names k runs fit becomes.
    let t = c.args.types.now in
    let l = c.loop-step_of in
    let x : Whole = record { made = made; names = names; expression = k } in
    let m = go_on t l.store c.build_step.new.store c.args.base (types_found t c.args.found.now) x c.args.store.now.cells c.args.steps.now l.step_of-index c.step_of-item.result c.args.frees.now
    l.stack.items c.build_step.new.stack.items c.in_ok-value.field-0 c.loop-step_of-test.true c.step_of-item.is l.invariant.adds.cells c.in_ok-value.ensures.advances becomes (l.invariant.going x runs becomes) in
    rw c.in_default.is at m

pub loop-step_of-preserved : goal.loop-step_of-preserved
loop-step_of-preserved g c =
    let t = c.args.types.now in
    let l = c.loop-step_of in
    let e : turned c.push.new.self.items ≡ c.in-Some.value ∷ turned c.build_step.new.stack.items = ap turned c.in_ok-push.ensures.items ∙ turned_last c.build_step.new.stack.items c.in-Some.value in
    let held : HoldsValue t c.build_step.new.store c.in-Some.value = rw c.in-Some.is at c.in_ok-value.ensures.held in
    record {
      adds = typed_on t c.args.store.now l.store c.build_step.new.store l.invariant.adds c.in_ok-value.ensures.adds;
      held = rw c.in_ok-push.ensures.items (All-push (HoldsValue t c.build_step.new.store) c.build_step.new.stack.items c.in-Some.value c.in_ok-value.ensures.stack held);
      going = λ x runs becomes.
          let v = types_found t c.args.found.now in
          let m = go_on t l.store c.build_step.new.store c.args.base v x c.args.store.now.cells c.args.steps.now l.step_of-index c.step_of-item.result c.args.frees.now
          l.stack.items c.build_step.new.stack.items c.in_ok-value.field-0 c.loop-step_of-test.true c.step_of-item.is l.invariant.adds.cells c.in_ok-value.ensures.advances becomes (l.invariant.going x runs becomes) in
          let n = rw c.in-Some.is at m in
          rw add-one (subst (Going t c.build_step.new.store c.args.base v x (items_of t c.args.store.now.cells x.names (drop (suc l.step_of-index) c.args.steps.now))) (sym e) n);
      count = omega (arith, l.invariant.count, c.in_ok-value.ensures.count);
    }

pub returns-clause-built : goal.returns-clause-built
returns-clause-built g c =
    if_ok c.pop_term.result (λ term h made names k runs fit becomes.
    let t = c.args.types.now in
    let l = c.loop-step_of in
    let x : Whole = record { made = made; names = names; expression = k } in
    let none = ap (items_of t c.args.store.now.cells names) (nothing_behind c.args.steps.now l.step_of-index (omega (arith, c.loop-step_of-test.false))) in
    ended t l.store c.pop_term.new.store c.args.base (types_found t c.args.found.now) x l.stack.items c.pop_term.new.stack.items term h fit
    (subst (λ is. Going t l.store c.args.base (types_found t c.args.found.now) x is (turned l.stack.items)) none (l.invariant.going x runs becomes)))
    c.pop_term.ensures.popped
