use Rattle.std.proofs.Common.{◌≡◌, suc, [], ◌∷◌, length, drop, sym, ◌∙◌, ap, subst, add-one, arith}
use Rattle.ab_inference.specs.Programs.{items_of}
use Rattle.ab_inference.specs.Inferences.{Running, AreBelow, turned}
use Rattle.ab_inference.proofs.Stepping.{at_start, at_end, kept_last}
use Rattle.ab_inference.proofs.Turned.{turned_last, turned_pop, from_here, nothing_behind}
use Rattle.ab_inference.proofs.constraints.infer.Goals as goal

pub loop-step_of-init : goal.loop-step_of-init
loop-step_of-init c = let r = c.requires in
    let e : turned c.new-stack.result.items ≡ [] = ap turned c.new-stack.ensures.items in
    record {
      longer = omega arith;
      formed = r.formed;
      held = r.held;
      below = subst (AreBelow (length c.args.shapes.now.items)) (sym e) tt;
      running = λ cells names k runs. subst (Running c.args.types.now c.args.base c.args.shapes.now.items c.args.shapes.now.items (items_of c.args.types.now cells names c.args.steps.now) (k ∷ [])) (sym e)
          (at_start c.args.types.now c.args.base c.args.shapes.now.items (items_of c.args.types.now cells names c.args.steps.now) k r.formed r.held runs);
    }

pub returns-in_default-clause-inferred : goal.returns-in_default-clause-inferred
returns-in_default-clause-inferred c = λ cells names k runs.
    let t = c.args.types.now in
    let first = c.args.shapes.now.items in
    let l = c.loop-step_of in
    let here = ap (items_of t cells names) (from_here c.args.steps.now l.step_of-index c.step_of-item.result c.loop-step_of-test.true c.step_of-item.is) in
    let r = subst (λ is. Running t c.args.base first l.shapes.items is (k ∷ []) (turned l.stack.items)) here (l.invariant.running cells names k runs) in
    let m = c.in_ok-node.ensures.inferred first cells names (items_of t cells names (drop (suc l.step_of-index) c.args.steps.now)) (k ∷ []) (sym c.requires.sum) r in
    rw c.in_default.is at m

pub loop-step_of-preserved : goal.loop-step_of-preserved
loop-step_of-preserved c =
    let t = c.args.types.now in
    let first = c.args.shapes.now.items in
    let l = c.loop-step_of in
    let kept = rw c.in-Some.is at c.in_ok-node.ensures.kept in
    let e : turned c.push.new.self.items ≡ c.in-Some.node ∷ turned c.infer_step.new.stack.items = ap turned c.in_ok-push.ensures.items ∙ turned_last c.infer_step.new.stack.items c.in-Some.node in
    record {
      longer = omega (arith, l.invariant.longer, kept.longer);
      formed = kept.formed;
      held = kept.held;
      below = subst (AreBelow (length c.infer_step.new.shapes.items)) (sym e) kept.below;
      running = λ cells names k runs.
          let here = ap (items_of t cells names) (from_here c.args.steps.now l.step_of-index c.step_of-item.result c.loop-step_of-test.true c.step_of-item.is) in
          let r = subst (λ is. Running t c.args.base first l.shapes.items is (k ∷ []) (turned l.stack.items)) here (l.invariant.running cells names k runs) in
          let m = c.in_ok-node.ensures.inferred first cells names (items_of t cells names (drop (suc l.step_of-index) c.args.steps.now)) (k ∷ []) (sym c.requires.sum) r in
          let n = rw c.in-Some.is at m in
          rw add-one (subst (Running t c.args.base first c.infer_step.new.shapes.items (items_of t cells names (drop (suc l.step_of-index) c.args.steps.now)) (k ∷ [])) (sym e) n);
    }

pub returns-clause-inferred : goal.returns-clause-inferred
returns-clause-inferred c = λ cells names k runs.
    let t = c.args.types.now in
    let first = c.args.shapes.now.items in
    let l = c.loop-step_of in
    let none = ap (items_of t cells names) (nothing_behind c.args.steps.now l.step_of-index (omega (arith, c.loop-step_of-test.false))) in
    let r = subst (λ is. Running t c.args.base first l.shapes.items is (k ∷ []) (turned l.stack.items)) none (l.invariant.running cells names k runs) in
    at_end t c.args.base first l.shapes.items k c.pop.result (turned l.stack.items) (turned c.pop.new.self.items)
    (turned_pop c.pop.result l.stack.items c.pop.new.self.items c.pop.ensures.items (λ e. let h = rw e at c.pop.ensures.cases in omega (arith, h.0, l.stack.ok.0))) r

pub returns-clause-kept : goal.returns-clause-kept
returns-clause-kept c =
    let t = c.args.types.now in
    let l = c.loop-step_of in
    let i = l.invariant in
    kept_last t c.args.shapes.now.items l.shapes.items c.pop.result (turned l.stack.items) (turned c.pop.new.self.items) i.longer i.formed i.held i.below
    (turned_pop c.pop.result l.stack.items c.pop.new.self.items c.pop.ensures.items (λ e. let h = rw e at c.pop.ensures.cases in omega (arith, h.0, l.stack.ok.0)))
