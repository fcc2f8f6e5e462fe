use Rattle.ab_existence.proofs.Certain.{of_two}
use Rattle.ab_answers.proofs.Commands.{command_answered}
use Rattle.ab_answers.proofs.command_laws.each_proof_command_leads_or_is_refused.Goals as goal

pub returns : goal.returns
returns c = λ D l command s is finds. of_two (command_answered D l command s finds is.numbers_differ)
