use Rattle.ab_print.proofs.Scoping.{captures_nothing}
use Rattle.ab_print.proofs.naming_laws.bound_names_capture_nothing.Goals as goal

pub returns : goal.returns
returns g c = captures_nothing
