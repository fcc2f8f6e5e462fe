use Rattle.std.proofs.Common.{◌≡◌, map}
use Rattle.ab_kernel.specs.Nodes.{open_node}
use Rattle.ab_kernel.proofs.node.open_nodes.Given as goal

abbrev pub invariant-loop-sequent : goal.invariant-loop-sequent
invariant-loop-sequent l = l.nodes.items ≡ map open_node l.yielded
