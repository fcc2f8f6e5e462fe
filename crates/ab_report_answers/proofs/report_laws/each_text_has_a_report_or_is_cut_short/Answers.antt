use Rattle.ab_existence.proofs.Certain.{of_two}
use Rattle.ab_report_answers.proofs.Reported.{text_reported}
use Rattle.ab_report_answers.proofs.report_laws.each_text_has_a_report_or_is_cut_short.Goals as goal

pub returns : goal.returns
returns c = λ way text before. of_two (text_reported way text before)
