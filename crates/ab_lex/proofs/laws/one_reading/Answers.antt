use Rattle.ab_lex.proofs.OneReading.{tokens_unique, fault_unique, fault_excludes}
use Rattle.ab_lex.proofs.Readable.{reading_there}
use Rattle.ab_lex.proofs.laws.one_reading.Goals as goal

pub returns : goal.returns
returns c = record {
  some = reading_there;
  tokens = λ text ts others h k. tokens_unique h k;
  fault = λ text fault other h k. fault_unique h k;
  either = λ text ts fault h k. fault_excludes k h;
}
