use Rattle.std.proofs.Common.{map}
use Rattle.ab_cert.specs.Members.{members_of}
use Rattle.ab_cert.specs.Values.{term_of, step_of}
use Rattle.ab_cert.proofs.ItemRead.{theorem_read}
use Rattle.ab_cert.proofs.read.read_theorem.Goals as goal

pub returns : goal.returns
returns c = λ x rest h e.
    theorem_read x rest _ _ _ _ _ c.in_ok-name.name _ (term_of c.in_ok-formula.formula) (map step_of (members_of c.in_ok-steps.steps)) h e
    c.in_ok-name.ensures c.next_count-count.ensures c.in_ok-formula.ensures c.in_ok-steps.ensures
