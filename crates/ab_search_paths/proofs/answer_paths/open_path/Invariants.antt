use Rattle.std.proofs.Common.{◌≤◌}
use Rattle.std.specs.List.{All}
use Rattle.ab_search_paths.specs.Paths.{HoldsEntry}
use Rattle.ab_search_paths.specs.Frames.{IsLater}
use Rattle.ab_search_paths.proofs.answer_paths.open_path.Given as goal

abbrev pub invariant-loop-place : goal.invariant-loop-place
invariant-loop-place g l = record {
  later : IsLater l.fn.world l.world;
  entries : All (HoldsEntry l.world) l.entries.items;
  counted : l.fn.steps ≤ l.steps;
}
