use Rattle.std.proofs.Common.{◌≡◌, ◌≤◌, ◌<◌, ap, ◌∙◌, arith}
use Rattle.ab_edit.specs.Prefixes.{place_of}
use Rattle.ab_edit.specs.State.{last_of}
use Rattle.ab_edit.proofs.Ends.{back_all}
use Rattle.ab_edit.proofs.Steps.{last_is_place, back_step}
use Rattle.ab_edit.proofs.Honest.{same_more}
use Rattle.ab_edit.proofs.moves.take_back.Goals as goal

pub back-preserved : goal.back-preserved
back-preserved g c =
    let o = c.back.invariant in
    let a = c.back-in-back.ensures in
    let fn_kept = g.R.Replay.kept c.args.replay.now in
    let now = g.R.Replay.kept c.back.replay in
    let new = g.R.Replay.kept c.back-in-back.new.self in
    let e : c.end_of_last.result ≡ last_of c.back.ends.items = c.end_of_last.ensures ∙ ap last_of c.deref.ensures.value in
    let less : c.args.start < last_of c.back.ends.items = omega (arith, e, c.back-test.true) in
    let b = back_step c.back-in-back.result c.args.start _ fn_kept now new c.back.ends.items c.pop.new.self.items a.kept o.ends_are less c.back.ends.ok.0 c.pop.ensures.rest o.back in
    record {
      ends_are = b.ends_are;
      back = b.back;
      test_stays = same_more (g.R.Replay.test c.args.replay.now) (g.R.Replay.test c.back.replay) (g.R.Replay.test c.back-in-back.new.self) o.test_stays a.test_stays;
      moves = omega (arith, b.counted, o.moves, a.one_move);
      moves_never_fall = omega (arith, o.moves_never_fall, a.moves_never_fall);
    }

pub returns-clause-taken : goal.returns-clause-taken
returns-clause-taken g c =
    let now = g.R.Replay.kept c.back.replay in
    let e : c.end_of_last.result ≡ place_of now = c.end_of_last.ensures ∙ (ap last_of c.deref.ensures.value ∙ (ap last_of c.back.invariant.ends_are ∙ last_is_place now)) in
    let l : place_of now ≤ c.args.start = omega (arith, e, c.back-test.false) in
    back_all c.args.start (g.R.Replay.kept c.args.replay.now) now c.back.invariant.back l
