use Rattle.std.proofs.Common.{◌≡◌, ◌+◌, [], ◌∷◌, ◌++◌, length, sym, ◌∙◌, ap, subst, arith}
use Rattle.std.proofs.lemmas.List.{length_push}
use Rattle.ab_steps.proofs.Following.{follows_on, follows_not}
use Rattle.ab_search.specs.GoalCounts.{GaveWayTo}
use Rattle.ab_search.proofs.Counting.{on_first, stands}
use Rattle.ab_search.proofs.opened_hypotheses.close_apart.Goals as goal

pub loop-init : goal.loop-init
loop-init g c =
    let w = c.args.world.now in
    let p = c.args.proof.now in
    let one : 1 ≡ length c.push.new.self.items = sym (ap length c.in_ok-push.ensures.items ∙ ap (λ l. length (l ++ c.args.name ∷ [])) c.new-waiting.ensures.items) in
    record {
      follows = follows_not w p c.requires.world c.requires.proof;
      gave = subst (GaveWayTo w p w p c.args.place) one (stands w p c.args.place);
      steps = omega arith;
    }

pub returns-in_err-close_or_take_apart-clause-follows : goal.returns-in_err-close_or_take_apart-clause-follows
returns-in_err-close_or_take_apart-clause-follows g c =
    follows_on c.args.world.now c.loop.world c.close_or_take_apart.new.world c.args.proof.now c.loop.proof c.close_or_take_apart.new.proof c.loop.invariant.follows c.close_or_take_apart.ensures.follows

pub loop-preserved : goal.loop-preserved
loop-preserved g c =
    let w = c.args.world.now in
    let v = c.loop.world in
    let u = c.close_or_take_apart.new.world in
    let p = c.args.proof.now in
    let q = c.loop.proof in
    let r = c.close_or_take_apart.new.proof in
    let rest = c.pop.new.self.items in
    let way = c.in_ok-close_or_take_apart.ensures.gave_way in
    let k = length rest in
    let before : length c.loop.waiting.items ≡ k + 1 = ap length c.in-Some.ensures.items ∙ length_push rest c.in-Some.first in
    let now : way.0 + k ≡ length c.close_or_take_apart.new.waiting.items = omega (arith, way.2) in
    let gave : GaveWayTo w p v q c.args.place (k + 1) = subst (GaveWayTo w p v q c.args.place) before c.loop.invariant.gave in
    record {
      follows = follows_on w v u p q r c.loop.invariant.follows c.close_or_take_apart.ensures.follows;
      gave = subst (GaveWayTo w p u r c.args.place) now (on_first w v u p q r c.args.place k way.0 gave way.1);
      steps = omega (arith, c.loop.invariant.steps, c.close_or_take_apart.ensures.steps);
    }
