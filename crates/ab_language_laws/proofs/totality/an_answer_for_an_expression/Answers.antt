use Rattle.ab_language_laws.proofs.Both.{expression_answer}
use Rattle.ab_language_laws.proofs.totality.an_answer_for_an_expression.Goals as goal

pub returns : goal.returns
returns c = expression_answer
