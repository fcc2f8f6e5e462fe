use Rattle.ab_cert.proofs.Words.{name_utf8}
use Rattle.ab_cert.proofs.leaves.name_of.Goals as goal

pub returns-in-Err : goal.returns-in-Err
returns-in-Err c = λ h. absurd (c.in-Err.ensures.cases.0 (name_utf8 c.args.piece.now h))
