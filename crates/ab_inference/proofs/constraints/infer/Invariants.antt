use Rattle.std.proofs.Common.{◌≤◌, List, [], ◌∷◌, length, drop}
use Rattle.ab_store.specs.declared.node.CellEntry.{CellEntry}
use Rattle.ab_inference.specs.Solutions.{AreFormed, AreHeld}
use Rattle.ab_meaning.specs.ResolvedNames.{Name}
use Rattle.ab_inference.specs.Sketches.{Sketch}
use Rattle.ab_inference.specs.Programs.{Runs, items_of}
use Rattle.ab_inference.specs.Inferences.{Running, AreBelow, turned}
use Rattle.ab_inference.proofs.constraints.infer.Given as goal

abbrev pub invariant-loop-step_of : goal.invariant-loop-step_of
invariant-loop-step_of l = record {
  longer : length l.fn.shapes.items ≤ length l.shapes.items;
  formed : AreFormed l.shapes.items;
  held : AreHeld l.types l.shapes.items;
  below : AreBelow (length l.shapes.items) (turned l.stack.items);
  running : (cells : List CellEntry) (names : List Name) (k : Sketch) → Runs (items_of l.types cells names l.steps) [] (k ∷ [])
      → Running l.types l.base l.fn.shapes.items l.shapes.items (items_of l.types cells names (drop l.step_of-index l.steps)) (k ∷ []) (turned l.stack.items);
}
