use Rattle.ab_language_laws.proofs.Files.{title_answer}
use Rattle.ab_language_laws.proofs.totality.an_answer_for_a_title.Goals as goal

pub returns : goal.returns
returns c = title_answer
