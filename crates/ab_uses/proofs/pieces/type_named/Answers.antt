use Rattle.std.proofs.Common.{◌≡◌, ◌≢◌, suc, ◌-◌, bytes_eq, true, false, sym, ap, ◌∙◌, arith}
use Rattle.ab_logic.specs.Worlds.{read}
use Rattle.ab_norm.specs.ab_types.specs.Ids.{type_of}
use Rattle.ab_theory.specs.Pieces.{pieces, type_named}
use Rattle.ab_uses.specs.Layers.{hint_of}
use Rattle.ab_uses.proofs.Layers.{pieces_under, pieces_within, pieces_more, pieces_last}
use Rattle.ab_uses.proofs.Named.{named_here, named_later, named_before_last}
use Rattle.ab_uses.proofs.pieces.type_named.Goals as goal

pub returns-then-is_named-clause-ty : goal.returns-then-is_named-clause-ty
returns-then-is_named-clause-ty c =
    let arm = c.in-Universal in
    let w = c.args.world.now in
    let n = c.args.name.now in
    let x = hint_of (read w arm.scope) in
    let A = type_of w.types arm.ty in
    let is : bytes_eq x n ≡ true = sym (c.is_named.ensures w.types) ∙ c.if-is_named.true in
    sym (sym c.layers.invariant.same
    ∙ ap (type_named n) (pieces_under (read w c.layers.rest) c.layers.left x A (read w arm.inner) (arm.ensures.reads w.types))
    ∙ named_here n x A (pieces c.layers.left (read w arm.inner)) is)

pub layers-preserved-in-Universal : goal.layers-preserved-in-Universal
layers-preserved-in-Universal c =
    let k = c.layers.invariant in
    let arm = c.in-Universal in
    let w = c.args.world.now in
    let n = c.args.name.now in
    let x = hint_of (read w arm.scope) in
    let A = type_of w.types arm.ty in
    let is : bytes_eq x n ≡ false = sym (c.is_named.ensures w.types) ∙ c.if-is_named.false in
    record {
      held = omega (arith, k.held, arm.ensures.below.1);
      same = sym (ap (type_named n) (pieces_under (read w c.layers.rest) c.layers.left x A (read w arm.inner) (arm.ensures.reads w.types))
          ∙ named_later n x A (pieces c.layers.left (read w arm.inner)) is) ∙ k.same;
    }

pub layers-preserved-in-Nabla : goal.layers-preserved-in-Nabla
layers-preserved-in-Nabla c =
    let k = c.layers.invariant in
    let arm = c.in-Nabla in
    let w = c.args.world.now in
    record {
      held = omega (arith, k.held, arm.ensures.below);
      same = sym (ap (type_named c.args.name.now) (pieces_within (read w c.layers.rest) c.layers.left (type_of w.types arm.field-0) (read w arm.inner) (arm.ensures.reads w.types))) ∙ k.same;
    }

pub returns-then-left-le1-clause-ty : goal.returns-then-left-le1-clause-ty
returns-then-left-le1-clause-ty c =
    let arm = c.in-Implication in
    let w = c.args.world.now in
    sym (sym c.layers.invariant.same
    ∙ named_before_last c.args.name.now (read w c.layers.rest) (read w arm.field-0) (read w arm.behind) c.layers.left (arm.ensures.reads w.types) c.if-left-le1.true)

pub layers-preserved : goal.layers-preserved
layers-preserved c =
    let k = c.layers.invariant in
    let arm = c.in-Implication in
    let w = c.args.world.now in
    let left = c.layers.left in
    let is : left ≡ suc (left - 1) = omega (arith, c.if-left-le1.false) in
    let other : left - 1 ≢ 0 = omega (arith, c.if-left-le1.false) in
    record {
      held = omega (arith, k.held, arm.ensures.below.1);
      same = sym (ap (type_named c.args.name.now) (pieces_more (read w c.layers.rest) left (left - 1) (read w arm.field-0) (read w arm.behind) (arm.ensures.reads w.types) is other)) ∙ k.same;
    }

pub returns-in-Last-clause-ty : goal.returns-in-Last-clause-ty
returns-in-Last-clause-ty c =
    let w = c.args.world.now in
    sym (sym c.layers.invariant.same
    ∙ ap (type_named c.args.name.now) (pieces_last (read w c.layers.rest) c.layers.left (c.in-Last.ensures.reads w.types)))
