use Rattle.std.proofs.Common.{map, sym, ap, ◌∙◌, subst}
use Rattle.ab_cert.specs.Signs.{type_of}
use Rattle.ab_cert.specs.TypeNodes.{type_node_piece}
use Rattle.ab_cert.specs.Writing.{stretch_pieces, IsRow}
use Rattle.ab_cert.proofs.NodeTrees.{type_written}
use Rattle.ab_cert.proofs.spelling.row_of.Goals as goal

pub returns-in-Type : goal.returns-in-Type
returns-in-Type c =
    let written = ap (map type_node_piece) c.nodes.ensures ∙ type_written (type_of c.in-Type.ty.now) in
    subst (λ q. IsRow q c.first_row.result) (written ∙ sym (ap stretch_pieces c.in-Type.is)) c.first_row.ensures
