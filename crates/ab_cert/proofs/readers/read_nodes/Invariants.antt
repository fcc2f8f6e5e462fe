use Rattle.std.proofs.Common.{◌≡◌, ◌≤◌, ◌+◌, ◌*◌, ◌^◌, length}
use Rattle.ab_cert.specs.Forms.{left_of}
use Rattle.ab_cert.proofs.Trees.{AreBegun, SoFar}
use Rattle.ab_cert.proofs.readers.read_nodes.Given as goal

abbrev pub invariant-nodes : goal.invariant-nodes
invariant-nodes g l = record {
  begun : AreBegun g.N.Node.tree l.nodes.items l.missing;
  far : SoFar g.N.Node.tree (left_of l.fn.text) l.nodes.items l.missing (left_of l.text);
  count : length l.nodes.items ≡ l._i;
  bound : l.missing ≤ l._i * 2 ^ 64 + 1;
}
