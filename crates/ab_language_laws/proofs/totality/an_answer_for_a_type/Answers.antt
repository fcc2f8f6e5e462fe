use Rattle.ab_language_laws.proofs.Both.{type_answer}
use Rattle.ab_language_laws.proofs.totality.an_answer_for_a_type.Goals as goal

pub returns : goal.returns
returns c = type_answer
