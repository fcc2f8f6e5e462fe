use Rattle.ab_term.proofs.Same.{same_term-Decides}
use Rattle.ab_term.proofs.typing.terms_are_compared_past_hints.Goals as goal

pub returns : goal.returns
returns g c = λ t u. ((same_term-Decides t u).0, (same_term-Decides t u).1)
