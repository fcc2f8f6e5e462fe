use Rattle.std.specs.List.{All}
use Rattle.std.proofs.Common.{sym, subst, arith}
use Rattle.std.proofs.lemmas.List.Elements.{All-nil}
use Rattle.ab_logic.specs.Worlds.{Holds}
use Rattle.ab_steps.proofs.Following.{follows_on, follows_not}
use Rattle.ab_search.proofs.Counting.{on_first, stands}
use Rattle.ab_search_paths.proofs.Likenesses.{likeness_stays}
use Rattle.ab_search.proofs.assumed_rows.take_all_bound.Goals as goal

pub returns-in_err-taken-clause-follows : goal.returns-in_err-taken-clause-follows
returns-in_err-taken-clause-follows g c =
    follows_on c.args.world.now c.loop.world c.take_bound.new.world c.args.proof.now c.loop.proof c.take_bound.new.proof c.loop.invariant.follows c.take_bound.ensures.follows

pub loop-preserved : goal.loop-preserved
loop-preserved g c =
    let w = c.args.world.now in
    let p = c.args.proof.now in
    let l = c.loop in
    let u = c.take_bound.new.world in
    let r = c.take_bound.new.proof in
    record {
      follows = follows_on w l.world u p l.proof r l.invariant.follows c.take_bound.ensures.follows;
      gave = on_first w l.world u p l.proof r c.args.place 0 1 l.invariant.gave c.in_ok-taken.ensures.gave_way;
      terms = c.in_ok-taken.ensures.terms;
      steps = omega (arith, l.invariant.steps, c.take_bound.ensures.steps);
    }

pub take_bound-requires-clause-like : goal.take_bound-requires-clause-like
take_bound-requires-clause-like g c =
    let like = c.args.like.now in
    likeness_stays c.args.world.now.types c.loop.world.types c.loop.invariant.follows.grows.types like.names.items like.targets.items c.requires.like

pub loop-init : goal.loop-init
loop-init g c =
    let w = c.args.world.now in
    let p = c.args.proof.now in
    record {
      follows = follows_not w p c.requires.world c.requires.proof;
      gave = stands w p c.args.place;
      terms = subst (All (Holds w)) (sym c.new.ensures.items) (All-nil (Holds w));
      steps = omega arith;
    }
