use Rattle.std.proofs.Common.{length, arith}
use Rattle.ab_steps.proofs.Following.{follows_on}
use Rattle.ab_search.proofs.Counting.{first_on}
use Rattle.ab_search_paths.proofs.Staying.{entries_then}
use Rattle.ab_search.proofs.carried_paths.carry_out.Goals as goal

pub take_at-requires-clause-path : goal.take_at-requires-clause-path
take_at-requires-clause-path g c =
    let f = c.loop-place.invariant.follows in
    entries_then c.args.world.now c.loop-place.world f.grows f.declared c.args.path.now c.requires.path

pub returns-in_err-gone-clause-follows : goal.returns-in_err-gone-clause-follows
returns-in_err-gone-clause-follows g c =
    follows_on c.args.world.now c.loop-place.world c.take_at.new.world c.args.proof.now c.loop-place.proof c.take_at.new.proof c.loop-place.invariant.follows c.take_at.ensures.follows

pub loop-place-preserved : goal.loop-place-preserved
loop-place-preserved g c =
    let w = c.args.world.now in
    let v = c.loop-place.world in
    let u = c.take_at.new.world in
    let p = c.args.proof.now in
    let q = c.loop-place.proof in
    let r = c.take_at.new.proof in
    let i = c.loop-place.invariant in
    record {
      follows = follows_on w v u p q r i.follows c.take_at.ensures.follows;
      gave_way = first_on w v u p q r 1 (length c.loop-place.progress.pending.items) (length c.take_at.new.progress.pending.items) i.gave_way c.in_ok-gone.ensures.gave_way;
      stand_ins = c.take_at.ensures.stand_ins;
      steps = omega (arith, i.steps, c.take_at.ensures.steps);
    }
