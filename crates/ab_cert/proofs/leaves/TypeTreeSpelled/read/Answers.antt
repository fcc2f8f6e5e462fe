use Rattle.std.proofs.Common.{◌≡◌, map, sym, ap, ◌∙◌}
use Rattle.ab_cert.specs.TypeNodes.{type_nodes, type_in}
use Rattle.ab_cert.proofs.NodeTrees.{type_in_nodes, map_same}
use Rattle.ab_cert.proofs.leaves.TypeTreeSpelled.read.Goals as goal

pub from_nodes-requires : goal.from_nodes-requires
from_nodes-requires c =
    let t = c.in_ok-read_nodes.ensures.whole in
    let nodes = sym (map_same c.in_ok-read_nodes.field-0.items) ∙ t.1 in
    ap (λ q. type_nodes (type_in q)) nodes ∙ (ap type_nodes (type_in_nodes t.0) ∙ sym nodes)

pub returns : goal.returns
returns c = λ x rest h e.
    let r = c.in_ok-read_nodes.ensures.read x rest h e in
    let nodes = sym (map_same c.in_ok-read_nodes.field-0.items) ∙ r.0 in
    (c.from_nodes.ensures ∙ (ap type_in nodes ∙ type_in_nodes x), r.1)
