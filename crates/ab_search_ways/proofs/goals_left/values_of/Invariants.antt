use Rattle.std.proofs.Common.{◌≤◌, take}
use Rattle.ab_norm.specs.NodeGrowth.{AddsTypedTerms}
use Rattle.ab_search_ways.specs.Answers.{IsAnswerFor}
use Rattle.ab_search_ways.proofs.goals_left.values_of.Given as goal

abbrev pub invariant-loop-cell : goal.invariant-loop-cell
invariant-loop-cell g l = record {
  adds : AddsTypedTerms l.types l.fn.store l.store;
  answer : IsAnswerFor l.types l.store (take l.cell-index l.cells) l.list.items;
  counted : l.fn.steps ≤ l.steps;
}
