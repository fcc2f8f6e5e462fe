use Rattle.ab_command_derivations.proofs.Searching.{search_derived}
use Rattle.ab_command_derivations.proofs.search_laws.what_a_search_closes_is_derived.Goals as goal

pub returns : goal.returns
returns c D depth s sound member none is unmarked comes = search_derived D depth s sound member none is unmarked comes
