use Rattle.std.proofs.Common.{◌≡◌, ◌≢◌, suc, ◌-◌, sym, ◌∙◌, arith}
use Rattle.ab_logic.specs.Worlds.{read}
use Rattle.ab_norm.specs.ab_types.specs.Ids.{type_of}
use Rattle.ab_uses.specs.Layers.{hint_of}
use Rattle.ab_uses.proofs.Layers.{behind_under, behind_within, behind_more}
use Rattle.ab_uses.proofs.pieces.formula_behind.Goals as goal

pub layers-preserved-in-Universal : goal.layers-preserved-in-Universal
layers-preserved-in-Universal c =
    let k = c.layers.invariant in
    let arm = c.in-Universal in
    let w = c.args.world.now in
    record {
      held = omega (arith, k.held, arm.ensures.below.1);
      same = sym (behind_under (read w c.layers.rest) c.layers.left (hint_of (read w arm.field-1)) (type_of w.types arm.field-0) (read w arm.inner) (arm.ensures.reads w.types)) ∙ k.same;
    }

pub layers-preserved-in-Nabla : goal.layers-preserved-in-Nabla
layers-preserved-in-Nabla c =
    let k = c.layers.invariant in
    let arm = c.in-Nabla in
    let w = c.args.world.now in
    record {
      held = omega (arith, k.held, arm.ensures.below);
      same = sym (behind_within (read w c.layers.rest) c.layers.left (type_of w.types arm.field-0) (read w arm.inner) (arm.ensures.reads w.types)) ∙ k.same;
    }

pub layers-preserved : goal.layers-preserved
layers-preserved c =
    let k = c.layers.invariant in
    let arm = c.in-Implication in
    let w = c.args.world.now in
    let left = c.layers.left in
    let is : left ≡ suc (left - 1) = omega (arith, c.if-left-eq0.false) in
    let other : left - 1 ≢ 0 = omega (arith, c.if-left-eq0.false, c.if-left-eq1.false) in
    record {
      held = omega (arith, k.held, arm.ensures.below.1);
      same = sym (behind_more (read w c.layers.rest) left (left - 1) (read w arm.field-0) (read w arm.behind) (arm.ensures.reads w.types) is other) ∙ k.same;
    }
