use Rattle.ab_print.proofs.Scoping.{apart_in_body}
use Rattle.ab_print.proofs.naming_laws.names_in_scope_differ.Goals as goal

pub returns : goal.returns
returns g c = apart_in_body
