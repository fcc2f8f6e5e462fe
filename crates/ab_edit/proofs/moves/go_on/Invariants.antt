use Rattle.std.proofs.Common.{◌≤◌, ◌<◌, ◌+◌, ◌^◌, [], length}
use Rattle.ab_io.specs.Replays.{SameTest}
use Rattle.ab_lex.proofs.Awaiting.{items_after}
use Rattle.ab_edit.specs.Prefixes.{IsMore}
use Rattle.ab_edit.specs.State.{IsGoing}
use Rattle.ab_edit.proofs.moves.go_on.Given as goal

abbrev pub invariant-commands : goal.invariant-commands
invariant-commands g l = record {
  room : length l.text < 2 ^ 64;
  going : IsGoing (g.R.Replay.test l.replay) l.text l.ends.items (g.R.Replay.kept l.replay) l.splitter;
  more : IsMore (g.R.Replay.kept l.fn.replay) (g.R.Replay.kept l.replay);
  test_stays : SameTest (g.R.Replay.test l.fn.replay) (g.R.Replay.test l.replay);
  moves : g.R.Replay.moves l.replay + length (g.R.Replay.kept l.fn.replay) ≤ g.R.Replay.moves l.fn.replay + length (g.R.Replay.kept l.replay);
  moves_never_fall : g.R.Replay.moves l.fn.replay ≤ g.R.Replay.moves l.replay;
}

abbrev pub decreases-commands : goal.decreases-commands
decreases-commands g l = length (items_after l.splitter [])
