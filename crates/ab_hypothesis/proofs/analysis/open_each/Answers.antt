use Rattle.std.specs.Prelude.{Err}
use Rattle.std.proofs.Common.{◌≡◌, ◌≤◌, ◌<◌, rules, arith}
use Rattle.ab_equations.specs.Labels.{label_of}
use Rattle.ab_steps.proofs.Following.{follows_on, follows_not}
use Rattle.ab_hypothesis.specs.declared.stop.Stop.{Stop}
use Rattle.ab_hypothesis.proofs.Waiting.{begins, next_there, one_more, one_stops, ends}
use Rattle.ab_hypothesis.proofs.analysis.open_each.Goals as goal

pub loop-place-init : goal.loop-place-init
loop-place-init g c = record {
  follows = follows_not c.args.world.now c.args.proof.now c.requires.world c.requires.proof;
  so = begins c.args.world.now c.args.proof.now (label_of c.args.label.now) c.args.own.now c.args.count c.requires.wait;
  steps = omega arith;
}

pub open_named-requires-clause-there : goal.open_named-requires-clause-there
open_named-requires-clause-there g c =
    next_there c.args.world.now c.args.proof.now (label_of c.args.label.now) c.args.own.now c.args.count c.loop-place.world c.loop-place.proof c.loop-place.place c.loop-place.invariant.so
    c.loop-place-test.true

pub returns-in_err-open_named-clause-follows : goal.returns-in_err-open_named-clause-follows
returns-in_err-open_named-clause-follows g c = follows_on _ _ _ _ _ _ c.loop-place.invariant.follows c.open_named.ensures.follows

pub returns-in_err-open_named-clause-stopped : goal.returns-in_err-open_named-clause-stopped
returns-in_err-open_named-clause-stopped g c e =
    let spent : c.open_named.result ≡ Err Stop.NamesSpent = search rules in
    one_stops c.args.world.now c.args.proof.now (label_of c.args.label.now) c.args.own.now c.args.count c.loop-place.world c.loop-place.proof c.loop-place.place c.loop-place.invariant.so
    c.loop-place.invariant.follows.declared c.loop-place-test.true (c.open_named.ensures.stopped spent)

pub loop-place-preserved : goal.loop-place-preserved
loop-place-preserved g c = record {
  follows = follows_on _ _ _ _ _ _ c.loop-place.invariant.follows c.open_named.ensures.follows;
  so =
      one_more c.args.world.now c.args.proof.now (label_of c.args.label.now) c.args.own.now c.args.count c.loop-place.world c.loop-place.proof c.loop-place.place c.loop-place.invariant.so
      c.open_named.new.world c.open_named.new.proof c.loop-place.invariant.follows.declared c.loop-place-test.true c.in_ok-open_named.ensures.opened;
  steps = omega (arith, c.loop-place.invariant.steps, c.open_named.ensures.steps);
}

pub returns-clause-opened : goal.returns-clause-opened
returns-clause-opened g c =
    let ended = c.loop-place-test.false in
    ends c.args.world.now c.args.proof.now (label_of c.args.label.now) c.args.own.now c.args.count c.loop-place.world c.loop-place.proof c.loop-place.place c.loop-place.invariant.so
    (omega (arith, ended))
