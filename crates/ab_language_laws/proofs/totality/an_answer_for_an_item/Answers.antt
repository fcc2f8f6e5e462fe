use Rattle.ab_language_laws.proofs.Files.{item_answer}
use Rattle.ab_language_laws.proofs.totality.an_answer_for_an_item.Goals as goal

pub returns : goal.returns
returns c = item_answer
