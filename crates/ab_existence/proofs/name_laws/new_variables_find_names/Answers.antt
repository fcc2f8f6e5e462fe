use Rattle.ab_existence.proofs.FreeNames.{name_by_hint}
use Rattle.ab_existence.proofs.name_laws.new_variables_find_names.Goals as goal

pub returns : goal.returns
returns c = name_by_hint
