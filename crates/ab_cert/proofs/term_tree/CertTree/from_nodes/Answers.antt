use Rattle.std.proofs.Common.{map, sym, ap, ◌∙◌}
use Rattle.std.specs.List.{flat_map}
use Rattle.ab_cert.specs.TermNodes.{node_of, node_pieces, term_in}
use Rattle.ab_cert.proofs.NodeTrees.{term_written}
use Rattle.ab_cert.proofs.term_tree.CertTree.from_nodes.Goals as goal

pub invariant_of-result : goal.invariant_of-result
invariant_of-result c = record {
  whole = ap (flat_map node_pieces) (sym c.requires) ∙ term_written (term_in (map node_of c.args.nodes.items));
}
