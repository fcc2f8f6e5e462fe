use Rattle.std.proofs.Common.{◌++◌, ap, ◌∙◌}
use Rattle.ab_cert.specs.Signs.{type_of}
use Rattle.ab_cert.specs.Values.{term_of}
use Rattle.ab_cert.specs.Pieces.{type_pieces, term_pieces}
use Rattle.ab_cert.proofs.Records.{replace}
use Rattle.ab_cert.proofs.read.CertReplaceSpelled.read.Goals as goal

pub returns : goal.returns
returns c = λ x rest h e.
    let n = c.next_number-number.ensures x.number ((type_pieces x.ty ++ term_pieces x.to) ++ rest) h.0 e in
    let r = c.in_ok-ty.ensures (x.ty, x.to) rest (h.1, h.2) n.1 in
    (ap (λ k. replace k (type_of c.in_ok-ty.ty, term_of c.in_ok-ty.to)) n.0 ∙ ap (replace x.number) r.0, r.1)
