use Rattle.std.proofs.Common.{◌≡◌, sym, ap, ◌∙◌}
use Rattle.ab_cert.specs.TermNodes.{term_nodes, term_in}
use Rattle.ab_cert.proofs.NodeTrees.{term_in_nodes}
use Rattle.ab_cert.proofs.leaves.CertTreeSpelled.read.Goals as goal

pub from_nodes-requires : goal.from_nodes-requires
from_nodes-requires c =
    let t = c.in_ok-read_nodes.ensures.whole in
    ap (λ q. term_nodes (term_in q)) t.1 ∙ (ap term_nodes (term_in_nodes t.0) ∙ sym t.1)

pub returns : goal.returns
returns c = λ x rest h e.
    let r = c.in_ok-read_nodes.ensures.read x rest h e in
    (c.from_nodes.ensures ∙ (ap term_in r.0 ∙ term_in_nodes x), r.1)
