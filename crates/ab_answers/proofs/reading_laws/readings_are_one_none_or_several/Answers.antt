use Rattle.ab_existence.proofs.Certain.{of_three}
use Rattle.ab_answers.proofs.Readings.{readings_counted}
use Rattle.ab_answers.proofs.reading_laws.readings_are_one_none_or_several.Goals as goal

pub returns : goal.returns
returns c = λ made e A. of_three (readings_counted made e A)
