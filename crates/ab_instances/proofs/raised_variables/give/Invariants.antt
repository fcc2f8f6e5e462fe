use Rattle.std.proofs.Common.{◌≡◌, take}
use Rattle.std.specs.List.{All}
use Rattle.ab_norm.specs.ab_store.specs.Trees.{Holds}
use Rattle.ab_norm.specs.NodeGrowth.{AddsTypedTerms}
use Rattle.ab_instances.specs.ListReadings.{trees_at, given_at}
use Rattle.ab_instances.specs.RaisedCells.{given_all}
use Rattle.ab_instances.proofs.raised_variables.give.Given as goal

abbrev pub invariant-loop-i : goal.invariant-loop-i
invariant-loop-i l = record {
  held : All (Holds l.store) l.terms.items;
  trees : trees_at l.types l.store l.terms.items ≡ given_all l.types l.initial.store (given_at l.types l.initial.store l.forms) (take l.i l.made) (take l.i l.cells);
  adds : AddsTypedTerms l.types l.initial.store l.store;
}
