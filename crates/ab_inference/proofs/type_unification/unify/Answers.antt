use Rattle.ab_inference.proofs.Working.{next_within, worked, work_fails}
use Rattle.std.proofs.Common.{◌≡◌, arith, true}
use Rattle.ab_inference.proofs.type_unification.unify.Goals as goal

pub meet-requires-clause-within : goal.meet-requires-clause-within
meet-requires-clause-within c =
    let popped = rw c.in-Some.is at c.pop.ensures.items in
    next_within c.args.types.now c.args.shapes.now c.args.wanted c.loop-next.shapes c.loop-next.work.items c.pop.new.self.items c.in-Some.next c.loop-next.invariant popped

pub returns-then-not-branch-clause-apart : goal.returns-then-not-branch-clause-apart
returns-then-not-branch-clause-apart c = λ _.
    let popped = rw c.in-Some.is at c.pop.ensures.items in
    work_fails c.args.types.now c.args.shapes.now c.args.wanted c.loop-next.shapes c.loop-next.work.items c.pop.new.self.items c.in-Some.next c.loop-next.invariant popped
    (c.in_ok-meet.ensures.apart c.if-not-branch.true)

pub loop-next-preserved : goal.loop-next-preserved
loop-next-preserved c =
    let popped = rw c.in-Some.is at c.pop.ensures.items in
    let yes : c.in_ok-meet.field-0 ≡ true = c.if-not-branch.false in
    worked c.args.types.now c.args.shapes.now c.args.wanted c.loop-next.shapes c.loop-next.work.items c.pop.new.self.items c.in-Some.next c.loop-next.invariant popped
    c.meet.new.shapes c.meet.new.work.items c.meet.auto.shapes (c.in_ok-meet.ensures.met yes)
