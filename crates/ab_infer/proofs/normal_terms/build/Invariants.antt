use Rattle.std.proofs.Common.{◌≤◌, [], ◌∷◌, drop}
use Rattle.std.specs.List.{All}
use Rattle.ab_norm.specs.NodeGrowth.{AddsTypedTerms}
use Rattle.ab_inference.specs.Programs.{Runs, items_of}
use Rattle.ab_inference.specs.Verdicts.{types_found}
use Rattle.ab_infer.specs.NormalTerms.{BecomeHeads}
use Rattle.ab_infer.specs.Values.{HoldsValue, Whole, Going, turned}
use Rattle.ab_infer.proofs.normal_terms.build.Given as goal

abbrev pub invariant-loop-step_of : goal.invariant-loop-step_of
invariant-loop-step_of g l = record {
  adds : AddsTypedTerms l.types l.fn.store l.store;
  held : All (HoldsValue l.types l.store) l.stack.items;
  going : (x : Whole) → Runs (items_of l.types l.fn.store.cells x.names l.steps) [] (x.expression ∷ []) → BecomeHeads l.types l.fn.store.cells l.base (types_found l.types l.found) x.made x.names l.frees
      → Going l.types l.store l.base (types_found l.types l.found) x (items_of l.types l.fn.store.cells x.names (drop l.step_of-index l.steps)) (turned l.stack.items);
  count : l.fn.count ≤ l.count;
}
