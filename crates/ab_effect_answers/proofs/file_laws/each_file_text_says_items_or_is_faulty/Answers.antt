use Rattle.ab_existence.proofs.Certain.{of_two}
use Rattle.ab_effect_answers.proofs.Texts.{text_answered}
use Rattle.ab_effect_answers.proofs.file_laws.each_file_text_says_items_or_is_faulty.Goals as goal

pub returns : goal.returns
returns c = λ bytes f. of_two (text_answered bytes f)
