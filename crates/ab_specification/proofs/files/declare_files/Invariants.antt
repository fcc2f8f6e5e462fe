use Rattle.std.proofs.Common.{◌≤◌, map, drop}
use Rattle.ab_logic.specs.WorldGrowth.{Grows}
use Rattle.ab_sigmod.specs.Outcomes.{read_of}
use Rattle.ab_specification.specs.FileDeclarations.{items_of}
use Rattle.ab_specification.proofs.Turns.{SoFar}
use Rattle.ab_specification.proofs.files.declare_files.Given as goal

abbrev pub invariant-loop-file : goal.invariant-loop-file
invariant-loop-file g l = record {
  so_far : SoFar l.fn.world l.world (items_of (map read_of l.files)) (items_of (map read_of (drop l.file-index l.files)));
  grows : Grows l.fn.world l.world;
  steps : l.fn.steps ≤ l.steps;
}
