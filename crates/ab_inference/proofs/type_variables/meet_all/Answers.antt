use Rattle.std.proofs.Common.{add-one, subst, sym, length, arith}
use Rattle.std.proofs.lemmas.List.{take_all}
use Rattle.ab_inference.proofs.Pushing.{MetSoFar, one_within, one_more, one_fails, all_met}
use Rattle.ab_inference.proofs.type_variables.meet_all.Goals as goal

pub unify-requires-clause-within : goal.unify-requires-clause-within
unify-requires-clause-within c = one_within c.args.types.now c.args.shapes.now c.loop-one.shapes c.args.wanted.now c.loop-one.one-index c.loop-one-test.true c.loop-one.invariant c.requires.within

pub returns-then-not-branch-clause-apart : goal.returns-then-not-branch-clause-apart
returns-then-not-branch-clause-apart c = λ _. one_fails c.args.types.now c.args.shapes.now c.loop-one.shapes c.args.wanted.now c.loop-one.one-index c.loop-one-test.true c.loop-one.invariant (c.in_ok-unify.ensures.apart c.if-not-branch.true)

pub loop-one-preserved : goal.loop-one-preserved
loop-one-preserved c = rw add-one (one_more c.args.types.now c.args.shapes.now c.loop-one.shapes c.args.wanted.now c.loop-one.one-index c.loop-one-test.true c.loop-one.invariant c.unify.new.shapes c.unify.auto.shapes (c.in_ok-unify.ensures.met c.if-not-branch.false))
