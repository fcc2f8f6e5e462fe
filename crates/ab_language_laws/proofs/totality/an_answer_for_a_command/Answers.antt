use Rattle.ab_language_laws.proofs.Commands.{command_answer}
use Rattle.ab_language_laws.proofs.totality.an_answer_for_a_command.Goals as goal

pub returns : goal.returns
returns c = command_answer
