use Rattle.ab_formulas.proofs.ProgramClauses.{is_program_clause}
use Rattle.ab_formulas.proofs.definitions.kept_program_clauses_are_cases.Goals as goal

pub returns : goal.returns
returns g = is_program_clause
