use Rattle.ab_search_answers.proofs.TextClauses.{behind_none}
use Rattle.ab_search_sessions.proofs.Defined.{declares_none}
use Rattle.ab_search_sessions.proofs.laws.commands_declare_no_coinductive_judgement.Goals as goal

pub returns : goal.returns
returns h = λ D more c d none. behind_none D more none (declares_none D more c d)
