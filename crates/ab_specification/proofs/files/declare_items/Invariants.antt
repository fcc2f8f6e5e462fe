use Rattle.std.proofs.Common.{◌≤◌, map, drop}
use Rattle.ab_syntax.specs.FileItems.{own_item_of}
use Rattle.ab_logic.specs.WorldGrowth.{Grows}
use Rattle.ab_specification.specs.FileDeclarations.{placed_items}
use Rattle.ab_specification.proofs.Turns.{SoFar}
use Rattle.ab_specification.proofs.files.declare_items.Given as goal

abbrev pub invariant-loop-item : goal.invariant-loop-item
invariant-loop-item g l = record {
  so_far : SoFar l.fn.world l.world (placed_items l.file 0 (map own_item_of l.items)) (placed_items l.file l.clauses (map own_item_of (drop l.item-index l.items)));
  grows : Grows l.fn.world l.world;
  few : l.clauses ≤ l.item-index;
  steps : l.fn.steps ≤ l.steps;
}
