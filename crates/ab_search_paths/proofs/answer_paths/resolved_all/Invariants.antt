use Rattle.std.proofs.Common.{◌≤◌}
use Rattle.std.specs.List.{All}
use Rattle.ab_norm.specs.NodeGrowth.{AddsTypedTerms}
use Rattle.ab_search_paths.specs.Paths.{IsTermIn}
use Rattle.ab_search_paths.specs.Frames.{as_world}
use Rattle.ab_search_paths.proofs.answer_paths.resolved_all.Given as goal

abbrev pub invariant-loop-term : goal.invariant-loop-term
invariant-loop-term g l = record {
  adds : AddsTypedTerms l.types l.fn.store l.store;
  terms : All (IsTermIn (as_world l.types l.store)) l.list.items;
  counted : l.fn.steps ≤ l.steps;
}
