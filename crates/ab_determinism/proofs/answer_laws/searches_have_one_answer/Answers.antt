use Rattle.ab_determinism.proofs.Searching.{one_refusal, closed_or_refused}
use Rattle.ab_determinism.proofs.answer_laws.searches_have_one_answer.Goals as goal

pub returns : goal.returns
returns c = record {
  apart = λ D l depth s u ps r definitions programs is its same. closed_or_refused D definitions programs l s u is its same depth ps r;
  one_refusal = λ D l depth s u r q definitions programs is its same. one_refusal D definitions programs l s u is its same depth r q;
}
