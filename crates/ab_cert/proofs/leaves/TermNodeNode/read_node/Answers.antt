use Rattle.std.proofs.Common.{◌≡◌, codes, sym, ap, ◌∙◌, rules}
use Rattle.ab_cert.specs.Splits.{first_piece}
use Rattle.ab_cert.proofs.NodeRead.{lam_read}
use Rattle.ab_cert.proofs.leaves.TermNodeNode.read_node.Goals as goal

pub returns-in_ok-ty : goal.returns-in_ok-ty
returns-in_ok-ty c = λ x rest h e.
    let word : c.next_piece.result.now ≡ codes "\\" = search rules in
    lam_read x rest _ _ _ _ _ h e (sym c.next_piece.ensures.piece ∙ word) c.next_piece.ensures.left c.in_ok-ty.ensures
