use Rattle.std.proofs.Common.{ap}
use Rattle.ab_cert.proofs.Records.{clause}
use Rattle.ab_cert.proofs.read.read_clause.Goals as goal

pub returns : goal.returns
returns c = λ x rest h e.
    let r = c.in_ok-variables.ensures (x.variables, (x.head, x.body)) rest (h.0, (h.1, h.2)) e in
    (ap clause r.0, r.1)
