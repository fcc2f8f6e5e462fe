use Rattle.ab_search_sessions.proofs.Defined.{files_none}
use Rattle.ab_search_sessions.proofs.laws.files_declare_no_coinductive_judgement.Goals as goal

pub returns : goal.returns
returns c = λ D more items d none. files_none D more items d none
