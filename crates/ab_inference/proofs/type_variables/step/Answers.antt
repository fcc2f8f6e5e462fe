use Rattle.std.proofs.Common.{◌≡◌, length, sym, subst, arith}
use Rattle.ab_inference.specs.VariableSteps.{Step, HasShape}
use Rattle.ab_inference.proofs.Pushing.{shape_step}
use Rattle.ab_inference.proofs.type_variables.step.Goals as goal

pub returns : goal.returns
returns c =
    let r = c.requires in
    let t = c.args.types.now in
    let s0 = c.args.shapes.now.items in
    let s = c.meet_in.new.shapes.items in
    let e : length s ≡ c.len-node.result = omega (arith, c.len-node.ensures, c.meet_in.new.shapes.ok.0) in
    subst (λ n. Step t s0 c.push.new.self.items n (HasShape t c.args.shape c.args.wanted.now)) e
    (shape_step t s0 s c.args.shape c.args.wanted.now c.meet_in.ensures.len r.shape r.shape_held (c.in_ok-meet_in.ensures.met c.if-not-branch.false) c.push.new.self.items c.in_ok-push.ensures.items)
