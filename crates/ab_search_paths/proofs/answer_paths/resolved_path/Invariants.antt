use Rattle.std.proofs.Common.{◌≤◌}
use Rattle.std.specs.List.{All}
use Rattle.ab_norm.specs.NodeGrowth.{AddsTypedTerms}
use Rattle.ab_search_paths.specs.Paths.{HoldsEntry}
use Rattle.ab_search_paths.specs.Frames.{as_world}
use Rattle.ab_search_paths.proofs.answer_paths.resolved_path.Given as goal

abbrev pub invariant-loop-entry : goal.invariant-loop-entry
invariant-loop-entry g l = record {
  adds : AddsTypedTerms l.types l.fn.store l.store;
  entries : All (HoldsEntry (as_world l.types l.store)) l.list.items;
  counted : l.fn.steps ≤ l.steps;
}
