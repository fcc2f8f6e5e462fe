use Rattle.std.proofs.Common.{◌≤◌}
use Rattle.ab_uses.proofs.Halves.{HalfMade}
use Rattle.ab_uses.proofs.new_cells.make_use.Given as goal

abbrev pub invariant-loop-part : goal.invariant-loop-part
invariant-loop-part g l = record {
  half : HalfMade l.initial.types l.initial.store l.held l.chosen l.parts l.fn.formula l.types l.store l.part-index l.left l.made;
  steps : l.initial.steps ≤ l.steps;
}
