use Rattle.ab_existence.proofs.Certain.{of_two}
use Rattle.ab_effect_answers.proofs.Declaring.{files_declare_or_not}
use Rattle.ab_effect_answers.proofs.file_laws.files_declare_or_are_refused.Goals as goal

pub returns : goal.returns
returns c = λ D files. of_two (files_declare_or_not D files)
