use Rattle.std.proofs.Common.{◌≡◌, true, Ok, arith, refl, ap}
use Rattle.ab_norm.specs.ab_types.specs.Entries.{signature}
use Rattle.ab_unify.proofs.Growth.{grows_on}
use Rattle.ab_alternatives.specs.ab_instances.proofs.Made.{names_held}
use Rattle.ab_uses.proofs.Fronts.{front_first}
use Rattle.ab_uses.proofs.Halves.{half_none, first_held, first_only, first_front, half_step}
use Rattle.ab_uses.proofs.new_cells.make_use.Goals as goal

pub loop-part-init : goal.loop-part-init
loop-part-init g c = record {
  half = half_none c.args.types.now c.args.store.now c.requires.store c.args.held.now c.args.chosen.now c.args.parts.now c.args.formula (record { cells = c.new.result; antecedents = c.new-2.result; result = c.args.formula; stages = c.new-3.result }) c.new.ensures.items c.new-2.ensures.items c.new-3.ensures.items refl
      c.requires.chosen c.requires.formula c.requires.front c.requires.fit;
  steps = omega arith;
}

pub take_part-requires-clause-held : goal.take_part-requires-clause-held
take_part-requires-clause-held g c = names_held c.args.types.now c.loop-part.types c.loop-part.invariant.half.grows.table c.args.held.now c.requires.held

pub take_part-requires-clause-part : goal.take_part-requires-clause-part
take_part-requires-clause-part g c =
    first_held c.args.types.now c.loop-part.types c.loop-part.types c.args.store.now c.loop-part.store c.loop-part.store c.args.held.now c.args.chosen.now c.args.parts.now c.args.formula c.loop-part.part-index c.part-item.result (omega (arith, c.loop-part-test.true)) c.part-item.is
    c.loop-part.left.now c.loop-part.made c.requires.held c.requires.parts c.loop-part.invariant.half

pub take_part-requires-clause-front : goal.take_part-requires-clause-front
take_part-requires-clause-front g c =
    front_first (signature c.loop-part.types)
    (first_front c.args.types.now c.loop-part.types c.loop-part.types c.args.store.now c.loop-part.store c.loop-part.store c.args.held.now c.args.chosen.now c.args.parts.now c.args.formula c.loop-part.part-index c.part-item.result (omega (arith, c.loop-part-test.true)) c.part-item.is
    c.loop-part.left.now c.loop-part.made c.requires.held c.requires.parts c.loop-part.invariant.half)

pub take_part-requires-clause-fit : goal.take_part-requires-clause-fit
take_part-requires-clause-fit g c =
    first_only c.args.types.now c.loop-part.types c.loop-part.types c.args.store.now c.loop-part.store c.loop-part.store c.args.held.now c.args.chosen.now c.args.parts.now c.args.formula c.loop-part.part-index c.part-item.result (omega (arith, c.loop-part-test.true)) c.part-item.is
    c.loop-part.left.now c.loop-part.made c.requires.held c.requires.parts c.loop-part.invariant.half

pub returns-in_err-take_part-clause-grows : goal.returns-in_err-take_part-clause-grows
returns-in_err-take_part-clause-grows g c = grows_on c.args.types.now c.loop-part.types c.take_part.new.types c.args.store.now c.loop-part.store c.take_part.new.store c.loop-part.invariant.half.grows c.in_err-take_part.ensures.grows

pub returns-then-not-branch-clause-grows : goal.returns-then-not-branch-clause-grows
returns-then-not-branch-clause-grows g c = grows_on c.args.types.now c.loop-part.types c.take_part.new.types c.args.store.now c.loop-part.store c.take_part.new.store c.loop-part.invariant.half.grows c.in_ok-take_part.ensures.grows

pub loop-part-preserved : goal.loop-part-preserved
loop-part-preserved g c =
    let yes : c.in_ok-take_part.field-0 ≡ true = c.if-not-branch.false in
    record {
      half = half_step c.args.types.now c.loop-part.types c.take_part.new.types c.args.store.now c.loop-part.store c.take_part.new.store c.args.held.now c.args.chosen.now c.args.parts.now c.args.formula c.loop-part.part-index c.part-item.result (omega (arith, c.loop-part-test.true)) c.part-item.is
          c.loop-part.left.now c.loop-part.made c.requires.held c.requires.parts c.loop-part.invariant.half c.in_ok-take_part.ensures.grows c.in_ok-take_part.ensures.before c.take_part.new.made c.left_behind-left.result.now
          (c.left_behind-left.ensures c.loop-part.types c.loop-part.store) (c.in_ok-take_part.ensures.goes (ap Ok yes)) (c.in_ok-take_part.ensures.stages (ap Ok yes));
      steps = omega (arith, c.loop-part.invariant.steps, c.in_ok-take_part.ensures.steps);
    }
