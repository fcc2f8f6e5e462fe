use Rattle.ab_language_laws.proofs.Resolving.{resolves_closed}
use Rattle.ab_language_laws.proofs.readback.names_resolve.Goals as goal

pub returns : goal.returns
returns g c = λ name sg A t d small. resolves_closed name sg A t d small
