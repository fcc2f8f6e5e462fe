use Rattle.std.proofs.Common.{◌≡◌, ◌≤◌, ◌+◌, vec_len}
use Rattle.ab_io.specs.Replays.{SameTest}
use Rattle.ab_edit.specs.Moves.{ends_from, count_behind}
use Rattle.ab_edit.proofs.Ends.{IsGoingBack}
use Rattle.ab_edit.proofs.moves.take_back.Given as goal

abbrev pub invariant-back : goal.invariant-back
invariant-back g l = record {
  ends_are : l.ends.items ≡ ends_from 0 (g.R.Replay.kept l.replay);
  back : IsGoingBack l.start (g.R.Replay.kept l.fn.replay) (g.R.Replay.kept l.replay);
  test_stays : SameTest (g.R.Replay.test l.fn.replay) (g.R.Replay.test l.replay);
  moves : g.R.Replay.moves l.replay + count_behind l.start (g.R.Replay.kept l.replay) ≤ g.R.Replay.moves l.fn.replay + count_behind l.start (g.R.Replay.kept l.fn.replay);
  moves_never_fall : g.R.Replay.moves l.fn.replay ≤ g.R.Replay.moves l.replay;
}

abbrev pub decreases-back : goal.decreases-back
decreases-back g l = vec_len l.ends
