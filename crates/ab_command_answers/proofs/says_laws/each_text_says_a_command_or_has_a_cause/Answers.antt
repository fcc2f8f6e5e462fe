use Rattle.ab_existence.proofs.Certain.{of_two}
use Rattle.ab_command_answers.proofs.Says.{says_or_fails}
use Rattle.ab_command_answers.proofs.says_laws.each_text_says_a_command_or_has_a_cause.Goals as goal

pub returns : goal.returns
returns c = λ bytes proving. of_two (says_or_fails bytes proving)
