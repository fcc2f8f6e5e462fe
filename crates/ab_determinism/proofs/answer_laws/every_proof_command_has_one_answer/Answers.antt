use Rattle.ab_determinism.proofs.Once.{once}
use Rattle.ab_determinism.proofs.answer_laws.every_proof_command_has_one_answer.Goals as goal

pub returns : goal.returns
returns c = record {
  apart = λ D l command s u ps f lists sentences definitions programs has is its same. (once D lists sentences definitions programs has s u is its same l command).apart ps f;
  one_refusal = λ D l command s u f g lists sentences definitions programs has is its same. (once D lists sentences definitions programs has s u is its same l command).refusal f g;
  one_list = λ D l command s u ps qs lists sentences definitions programs has is its same. (once D lists sentences definitions programs has s u is its same l command).goals ps qs;
}
