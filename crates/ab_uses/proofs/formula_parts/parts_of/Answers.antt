use Rattle.std.proofs.Common.{◌≡◌, ◌≢◌, suc, ◌-◌, [], ◌∷◌, ◌++◌, map, refl, sym, ◌∙◌, ap, subst, arith, append-nil}
use Rattle.std.specs.List.{All}
use Rattle.std.proofs.lemmas.List.Elements.{All-push}
use Rattle.ab_norm.specs.ab_types.specs.Ids.{type_of}
use Rattle.ab_logic.specs.Worlds.{read}
use Rattle.ab_theory.specs.Pieces as spec
use Rattle.ab_theory.specs.Pieces.{pieces, parts, part_for, given_otherwise, constant_for, antecedent}
use Rattle.ab_uses.specs.GivenReadings.{given_of}
use Rattle.ab_uses.specs.Layers.{hint_of}
use Rattle.ab_uses.proofs.Layers.{pieces_under, pieces_within, pieces_one, pieces_more}
use Rattle.ab_uses.specs.UseCells.{HoldsPart, parts_read}
use Rattle.ab_uses.specs.declared.part.Part.TheVariants.{Constant, Antecedent}
use Rattle.ab_uses.proofs.PartsMade.{parts_push}
use Rattle.ab_uses.proofs.formula_parts.parts_of.Goals as goal

pub layers-preserved-in-Universal : goal.layers-preserved-in-Universal
layers-preserved-in-Universal c =
    let k = c.layers.invariant in
    let w = c.args.world.now in
    let arm = c.in-Universal in
    let made = c.in_ok-part_of-in-Universal.ensures in
    let part = c.in_ok-part_of-in-Universal.field-0 in
    let items = c.in_ok-push-in-Universal.ensures.items in
    let done = parts_read w.types w.store c.layers.list.items in
    let gs = map (given_of w) c.layers.spare.items in
    let name = c.in_ok-name-in-Universal.name in
    let A = type_of w.types arm.ty in
    let rest = pieces c.layers.left (read w arm.inner) in
    record {
      held = omega (arith, k.held, arm.ensures.below.1);
      spare = made.left_held;
      list = subst (All (HoldsPart w.types w.store)) (sym items) (All-push (HoldsPart w.types w.store) c.layers.list.items part k.list made.held);
      same = ap (λ l. parts_read w.types w.store c.push.new.self.items ++ parts l rest) made.left
          ∙ parts_push w.types w.store c.layers.list.items c.push.new.self.items part (part_for name A (spec.given_for name gs)) (parts (given_otherwise name gs) rest) items made.part
          ∙ ap (λ x. done ++ part_for x A (spec.given_for x gs) ∷ parts (given_otherwise x gs) rest) (c.in_ok-name-in-Universal.ensures w.types)
          ∙ sym (ap (λ ps. done ++ parts gs ps) (pieces_under (read w c.layers.rest) c.layers.left (hint_of (read w arm.scope)) A (read w arm.inner) (arm.ensures.reads w.types)))
          ∙ k.same;
    }

pub layers-preserved-in-Nabla : goal.layers-preserved-in-Nabla
layers-preserved-in-Nabla c =
    let k = c.layers.invariant in
    let w = c.args.world.now in
    let arm = c.in-Nabla in
    let items = c.in_ok-push-in-Nabla.ensures.items in
    let gs = map (given_of w) c.layers.spare.items in
    let A = type_of w.types arm.ty in
    record {
      held = omega (arith, k.held, arm.ensures.below);
      spare = k.spare;
      list = subst (All (HoldsPart w.types w.store)) (sym items) (All-push (HoldsPart w.types w.store) c.layers.list.items (Constant arm.ty) k.list (arm.ensures.typed w.types c.requires.world.typed));
      same = parts_push w.types w.store c.layers.list.items c.push-in-Nabla.new.self.items (Constant arm.ty) (constant_for A) (parts gs (pieces c.layers.left (read w arm.inner))) items refl
          ∙ sym (ap (λ ps. parts_read w.types w.store c.layers.list.items ++ parts gs ps) (pieces_within (read w c.layers.rest) c.layers.left A (read w arm.inner) (arm.ensures.reads w.types)))
          ∙ k.same;
    }

pub returns-then-left-eq1-clause-parts : goal.returns-then-left-eq1-clause-parts
returns-then-left-eq1-clause-parts c =
    let w = c.args.world.now in
    let arm = c.in-Implication in
    let gs = map (given_of w) c.layers.spare.items in
    sym (append-nil (parts_read w.types w.store c.push-in-Implication.new.self.items))
    ∙ parts_push w.types w.store c.layers.list.items c.push-in-Implication.new.self.items Antecedent antecedent [] c.in_ok-push-in-Implication.ensures.items refl
    ∙ sym (ap (λ ps. parts_read w.types w.store c.layers.list.items ++ parts gs ps)
    (ap (λ n. pieces n (read w c.layers.rest)) c.if-left-eq1.true ∙ pieces_one (read w c.layers.rest) (read w arm.field-0) (read w arm.behind) (arm.ensures.reads w.types)))
    ∙ c.layers.invariant.same

pub layers-preserved : goal.layers-preserved
layers-preserved c =
    let k = c.layers.invariant in
    let w = c.args.world.now in
    let arm = c.in-Implication in
    let items = c.in_ok-push-in-Implication.ensures.items in
    let gs = map (given_of w) c.layers.spare.items in
    let left = c.layers.left in
    let is : left ≡ suc (left - 1) = omega (arith, c.if-left-eq0.false) in
    let other : left - 1 ≢ 0 = omega (arith, c.if-left-eq0.false, c.if-left-eq1.false) in
    record {
      held = omega (arith, k.held, arm.ensures.below.1);
      spare = k.spare;
      list = subst (All (HoldsPart w.types w.store)) (sym items) (All-push (HoldsPart w.types w.store) c.layers.list.items Antecedent k.list tt);
      same = parts_push w.types w.store c.layers.list.items c.push-in-Implication.new.self.items Antecedent antecedent (parts gs (pieces (left - 1) (read w arm.behind))) items refl
          ∙ sym (ap (λ ps. parts_read w.types w.store c.layers.list.items ++ parts gs ps) (pieces_more (read w c.layers.rest) left (left - 1) (read w arm.field-0) (read w arm.behind) (arm.ensures.reads w.types) is other))
          ∙ k.same;
    }
