use Rattle.ab_effects.specs.ProofCommands.{effect}
use Rattle.ab_determinism.proofs.Settled.{never_both, one_refusal, one_list}
use Rattle.ab_determinism.proofs.Commands.{settled}
use Rattle.ab_determinism.proofs.answer_laws.proof_commands_have_one_answer.Goals as goal

pub returns : goal.returns
returns c = record {
  apart = λ D l command s ps f so. never_both (effect D l command s) (settled D l command s so) ps f;
  one_refusal = λ D l command s f g so. one_refusal (effect D l command s) (settled D l command s so) f g;
  one_list = λ D l command s ps qs so. one_list (effect D l command s) (settled D l command s so) ps qs;
}
