use Rattle.ab_term.proofs.Unique.{one_type}
use Rattle.ab_term.proofs.typing.types_are_unique.Goals as goal

pub returns : goal.returns
returns g c = λ sg G A B t d e. one_type sg d e
