use Rattle.std.proofs.Common.{ap}
use Rattle.ab_cert.specs.Plain.{Variable}
use Rattle.ab_cert.proofs.Records.{variable}
use Rattle.ab_cert.proofs.read.CertVarSpelled.read.Goals as goal

pub returns : goal.returns
returns c = λ x rest h e.
    let r = c.in_ok-name.ensures (x.name, x.ty) rest h e in
    (ap variable r.0, r.1)
