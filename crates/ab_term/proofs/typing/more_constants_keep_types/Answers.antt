use Rattle.ab_term.proofs.Unique.{more_typed}
use Rattle.ab_term.proofs.typing.more_constants_keep_types.Goals as goal

pub returns : goal.returns
returns g c = λ sg more extended G A t d. more_typed sg more extended d
