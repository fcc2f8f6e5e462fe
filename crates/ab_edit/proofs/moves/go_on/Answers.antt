use Rattle.std.proofs.Common.{◌≡◌, ◌-◌, ℕ, List, [], ◌∷◌, ◌++◌, length, take, drop, sym, ap, ◌∙◌, arith}
use Rattle.std.proofs.lemmas.List.{append-nil, length-append, take_rest}
use Rattle.ab_edit.specs.State.{last_of}
use Rattle.ab_edit.proofs.Honest.{same_test, same_more}
use Rattle.ab_edit.proofs.Steps.{last_within, going_first, more_one}
use Rattle.ab_edit.proofs.moves.go_on.Goals as goal

pub slice_bounds-feed-count : goal.slice_bounds-feed-count
slice_bounds-feed-count g c =
    let e : c.end_of_last.result ≡ last_of c.args.ends.now.items = c.end_of_last.ensures ∙ ap last_of c.deref.ensures.value in
    omega (arith, e, last_within (g.R.Replay.test c.args.replay.now) c.args.text.now c.args.ends.now.items (g.R.Replay.kept c.args.replay.now) c.requires.in_step)

pub slice_bounds-feed-start : goal.slice_bounds-feed-start
slice_bounds-feed-start g c =
    let e : c.end_of_last.result ≡ last_of c.args.ends.now.items = c.end_of_last.ensures ∙ ap last_of c.deref.ensures.value in
    omega (arith, e, last_within (g.R.Replay.test c.args.replay.now) c.args.text.now c.args.ends.now.items (g.R.Replay.kept c.args.replay.now) c.requires.in_step)

pub commands-init : goal.commands-init
commands-init g c =
    let e : c.end_of_last.result ≡ last_of c.args.ends.now.items = c.end_of_last.ensures ∙ ap last_of c.deref.ensures.value in
    let left = take_rest c.args.text.now c.end_of_last.result in
    let fed : c.feed.new.self.text ≡ drop (last_of c.args.ends.now.items) c.args.text.now =
    c.in_ok-feed.ensures.text
    ∙ (ap (λ q. q ++ take (length c.args.text.now - c.end_of_last.result) (drop c.end_of_last.result c.args.text.now)) c.new-splitter.ensures.text
    ∙ (left ∙ ap (λ n. drop n c.args.text.now) e)) in
    let short = c.in_ok-feed.ensures.in_long ∙ c.new-splitter.ensures.in_long in
    record {
      room = c.requires.room;
      going = going_first (g.R.Replay.test c.args.replay.now) c.args.text.now c.args.ends.now.items (g.R.Replay.kept c.args.replay.now) c.feed.new.self c.requires.in_step fed short;
      more = ([], sym (append-nil (g.R.Replay.kept c.args.replay.now)));
      test_stays = same_test (g.R.Replay.test c.args.replay.now);
      moves = omega arith;
      moves_never_fall = omega arith;
    }

pub commands-preserved : goal.commands-preserved
commands-preserved g c =
    let yes = c.if-not-branch.false in
    let going = rw yes at c.in_ok-accept_next.ensures.going in
    let one = rw yes at c.in_ok-accept_next.ensures.one_more in
    let n = ap length one.1 in
    let o = c.commands.invariant in
    let a = c.in_ok-accept_next.ensures in
    record {
      room = o.room;
      going = going;
      more = more_one (g.R.Replay.kept c.args.replay.now) (g.R.Replay.kept c.commands.replay) (g.R.Replay.kept c.accept_next.new.replay) o.more one;
      test_stays = same_more (g.R.Replay.test c.args.replay.now) (g.R.Replay.test c.commands.replay) (g.R.Replay.test c.accept_next.new.replay) o.test_stays a.test_stays;
      moves = omega (arith, n, o.moves, a.one_move, length-append {A = List ℕ} (g.R.Replay.kept c.commands.replay) (one.0 ∷ []));
      moves_never_fall = omega (arith, o.moves_never_fall, a.moves_never_fall);
    }
