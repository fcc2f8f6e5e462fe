use Rattle.std.proofs.Common.{arith}
use Rattle.std.proofs.lemmas.Result.{on_ok_weaker}
use Rattle.ab_steps.proofs.Following.{follows_on, follows_not}
use Rattle.ab_search.proofs.Counting.{on_first, stands}
use Rattle.ab_search.proofs.empty_lists.close_by_empty_list.Goals as goal

pub loop-init : goal.loop-init
loop-init g c =
    let w = c.args.world.now in
    let p = c.args.proof.now in
    record { follows = follows_not w p c.requires.world c.requires.proof; gave = stands w p c.args.place; steps = omega arith }

pub returns-in_err-open_layer-clause-follows : goal.returns-in_err-open_layer-clause-follows
returns-in_err-open_layer-clause-follows g c =
    follows_on c.args.world.now c.loop.world c.open_layer.new.world c.args.proof.now c.loop.proof c.open_layer.new.proof c.loop.invariant.follows c.open_layer.ensures.follows

pub loop-preserved : goal.loop-preserved
loop-preserved g c =
    let w = c.args.world.now in
    let p = c.args.proof.now in
    let l = c.loop in
    let u = c.open_layer.new.world in
    let r = c.open_layer.new.proof in
    record {
      follows = follows_on w l.world u p l.proof r l.invariant.follows c.open_layer.ensures.follows;
      gave = on_first w l.world u p l.proof r c.args.place 0 1 l.invariant.gave c.in_ok-open_layer.ensures.gave_way;
      steps = omega (arith, l.invariant.steps, c.open_layer.ensures.steps);
    }

pub returns-in_err-name-clause-follows : goal.returns-in_err-name-clause-follows
returns-in_err-name-clause-follows g c =
    follows_on c.args.world.now c.loop.world c.open_layer.new.world c.args.proof.now c.loop.proof c.open_layer.new.proof c.loop.invariant.follows c.open_layer.ensures.follows

pub returns-clause-follows : goal.returns-clause-follows
returns-clause-follows g c =
    follows_on c.args.world.now c.loop.world c.take.new.world c.args.proof.now c.loop.proof c.take.new.proof c.loop.invariant.follows c.take.ensures.follows

pub returns-clause-gave_way : goal.returns-clause-gave_way
returns-clause-gave_way g c =
    on_ok_weaker c.take.result
    (λ gave. on_first c.args.world.now c.loop.world c.take.new.world c.args.proof.now c.loop.proof c.take.new.proof c.args.place 0 0 c.loop.invariant.gave gave)
    c.take.ensures.taken
