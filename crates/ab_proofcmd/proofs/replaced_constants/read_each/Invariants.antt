use Rattle.std.proofs.Common.{◌≤◌, take, map}
use Rattle.ab_syntax.specs.Commands.{instance_of}
use Rattle.ab_proofcmd.proofs.ReplacedSets.{ReadForSoFar}
use Rattle.ab_proofcmd.proofs.replaced_constants.read_each.Given as goal

abbrev pub invariant-loop-instance : goal.invariant-loop-instance
invariant-loop-instance g l = record {
  far : ReadForSoFar l.fn.world l.world l.goal l.names (map instance_of (take l.instance-index l.instances)) l.given.items;
  steps : l.fn.steps ≤ l.steps;
}
