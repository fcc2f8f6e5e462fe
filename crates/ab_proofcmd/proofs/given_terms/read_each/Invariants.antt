use Rattle.std.proofs.Common.{◌≤◌, take, map}
use Rattle.ab_syntax.specs.Commands.{instance_of}
use Rattle.ab_proofcmd.proofs.TermSets.{ReadSoFar}
use Rattle.ab_proofcmd.proofs.given_terms.read_each.Given as goal

abbrev pub invariant-loop-instance : goal.invariant-loop-instance
invariant-loop-instance g l = record {
  far : ReadSoFar l.fn.world l.world l.goal l.formula l.count (map instance_of (take l.instance-index l.instances)) l.given.items;
  steps : l.fn.steps ≤ l.steps;
}
