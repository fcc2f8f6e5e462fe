use Rattle.std.proofs.Common.{◌≡◌, ◌+◌, List, [], ◌∷◌, ◌++◌, None, false, sym, subst, arith}
use Rattle.ab_next_ways.specs.declared.cursor.Cursor.TheVariants.{Start}
use Rattle.ab_walk.specs.Stacks.{beginning_at, IsUnderway, GoesOn}
use Rattle.ab_walk.specs.declared.frames.Frame.{Frame}
use Rattle.ab_walk.specs.declared.seen_leaves.Seen.{Seen}
use Rattle.ab_walk.proofs.StepsTaken.{underway_later, begun}
use Rattle.ab_walk.proofs.walk.walk_on.Goals as goal

pub turns-init : goal.turns-init
turns-init g c =
    let w = c.args.world.now in
    let base = c.args.base.now in
    let m = c.mark-mark in
    let frame : Frame = record { place = c.args.place; cursor = Start; mark = m.result } in
    let frames : c.push.new.self.items ≡ [] ++ frame ∷ [] = subst (λ (l : List Frame). c.push.new.self.items ≡ l ++ frame ∷ []) c.requires.1.1.1 c.in_ok-push.ensures.items in
    let none : Seen = record { stuck = None; blind = false } in
    record {
      underway = λ ls has. (
        g.turns + 0,
        (let none_yet = c.new-taken.ensures in omega (arith, none_yet)),
        subst (λ (l : List Frame). IsUnderway (beginning_at w base has.0 c.args.place) base ls (g.turns + 0) w l none) (sym frames) (begun base w c.requires.1.0 m.result m.ensures.has m.ensures.bindings m.ensures.nodes m.ensures.cells c.args.place ls g.turns has),
      );
      steps = omega arith;
    }

pub take_step-requires-clause-world : goal.take_step-requires-clause-world
take_step-requires-clause-world g c =
    let there = c.requires.1.1.0 in
    let u = c.turns.invariant.underway there.0 there.1 in
    (underway_later (beginning_at c.args.world.now c.args.base.now there.1.0 c.args.place) c.args.base.now there.0 u.0 c.turns.world c.turns.stack.items c.turns.seen u.2).grows.world

pub take_step-requires-clause-underway : goal.take_step-requires-clause-underway
take_step-requires-clause-underway g c =
    let there = c.requires.1.1.0 in
    let u = c.turns.invariant.underway there.0 there.1 in
    (beginning_at c.args.world.now c.args.base.now there.1.0 c.args.place, there.0, u.0, u.2)

pub returns-in_err-told-clause-grows : goal.returns-in_err-told-clause-grows
returns-in_err-told-clause-grows g c =
    let there = c.requires.1.1.0 in
    let u = c.turns.invariant.underway there.0 there.1 in
    (c.take_step.ensures.later (beginning_at c.args.world.now c.args.base.now there.1.0 c.args.place) there.0 u.0 u.2).grows

pub returns-in_err-told-clause-declared : goal.returns-in_err-told-clause-declared
returns-in_err-told-clause-declared g c =
    let there = c.requires.1.1.0 in
    let u = c.turns.invariant.underway there.0 there.1 in
    (c.take_step.ensures.later (beginning_at c.args.world.now c.args.base.now there.1.0 c.args.place) there.0 u.0 u.2).declared

pub returns-in-Some-clause-told : goal.returns-in-Some-clause-told
returns-in-Some-clause-told g c = λ ls has.
    let n = c.take_step.new in
    let u = c.turns.invariant.underway ls has in
    (subst (GoesOn (beginning_at c.args.world.now c.args.base.now has.0 c.args.place) c.args.base.now ls u.0 n.world n.stack.items n.seen) c.in-Some.is (c.in_ok-told.ensures.goes_on (beginning_at c.args.world.now c.args.base.now has.0 c.args.place) ls u.0 u.2)).0

pub returns-in-Some-clause-as_before : goal.returns-in-Some-clause-as_before
returns-in-Some-clause-as_before g c =
    let there = c.requires.1.1.0 in
    let n = c.take_step.new in
    let u = c.turns.invariant.underway there.0 there.1 in
    (subst (GoesOn (beginning_at c.args.world.now c.args.base.now there.1.0 c.args.place) c.args.base.now there.0 u.0 n.world n.stack.items n.seen) c.in-Some.is (c.in_ok-told.ensures.goes_on (beginning_at c.args.world.now c.args.base.now there.1.0 c.args.place) there.0 u.0 u.2)).1

pub returns-in-Some-clause-path : goal.returns-in-Some-clause-path
returns-in-Some-clause-path g c =
    let there = c.requires.1.1.0 in
    let n = c.take_step.new in
    let u = c.turns.invariant.underway there.0 there.1 in
    (subst (GoesOn (beginning_at c.args.world.now c.args.base.now there.1.0 c.args.place) c.args.base.now there.0 u.0 n.world n.stack.items n.seen) c.in-Some.is (c.in_ok-told.ensures.goes_on (beginning_at c.args.world.now c.args.base.now there.1.0 c.args.place) there.0 u.0 u.2)).2

pub returns-in-Some-clause-leads : goal.returns-in-Some-clause-leads
returns-in-Some-clause-leads g c = λ ls has.
    let n = c.take_step.new in
    let u = c.turns.invariant.underway ls has in
    (subst (GoesOn (beginning_at c.args.world.now c.args.base.now has.0 c.args.place) c.args.base.now ls u.0 n.world n.stack.items n.seen) c.in-Some.is (c.in_ok-told.ensures.goes_on (beginning_at c.args.world.now c.args.base.now has.0 c.args.place) ls u.0 u.2)).3

pub returns-in-Some-clause-grows : goal.returns-in-Some-clause-grows
returns-in-Some-clause-grows g c =
    let there = c.requires.1.1.0 in
    let u = c.turns.invariant.underway there.0 there.1 in
    (c.take_step.ensures.later (beginning_at c.args.world.now c.args.base.now there.1.0 c.args.place) there.0 u.0 u.2).grows

pub returns-in-Some-clause-declared : goal.returns-in-Some-clause-declared
returns-in-Some-clause-declared g c =
    let there = c.requires.1.1.0 in
    let u = c.turns.invariant.underway there.0 there.1 in
    (c.take_step.ensures.later (beginning_at c.args.world.now c.args.base.now there.1.0 c.args.place) there.0 u.0 u.2).declared

pub turns-preserved : goal.turns-preserved
turns-preserved g c =
    let n = c.take_step.new in
    record {
      underway = λ ls has.
          let u = c.turns.invariant.underway ls has in
          let on : GoesOn (beginning_at c.args.world.now c.args.base.now has.0 c.args.place) c.args.base.now ls u.0 n.world n.stack.items n.seen None = subst (GoesOn (beginning_at c.args.world.now c.args.base.now has.0 c.args.place) c.args.base.now ls u.0 n.world n.stack.items n.seen) c.in_default.is (c.in_ok-told.ensures.goes_on (beginning_at c.args.world.now c.args.base.now has.0 c.args.place) ls u.0 u.2) in
          (on.0, (let less = on.1 in let few = u.1 in let one = c.tick.ensures in omega (arith, less, few, one)), on.2);
      steps = omega (arith, c.turns.invariant.steps, c.take_step.ensures.steps);
    }

pub turns-smaller : goal.turns-smaller
turns-smaller g c =
    let there = c.requires.1.1.0 in
    let n = c.take_step.new in
    let u = c.turns.invariant.underway there.0 there.1 in
    let on : GoesOn (beginning_at c.args.world.now c.args.base.now there.1.0 c.args.place) c.args.base.now there.0 u.0 n.world n.stack.items n.seen None = subst (GoesOn (beginning_at c.args.world.now c.args.base.now there.1.0 c.args.place) c.args.base.now there.0 u.0 n.world n.stack.items n.seen) c.in_default.is (c.in_ok-told.ensures.goes_on (beginning_at c.args.world.now c.args.base.now there.1.0 c.args.place) there.0 u.0 u.2) in
    let less = on.1 in
    let few = u.1 in
    let one = c.tick.ensures in
    omega (arith, less, few, one)
