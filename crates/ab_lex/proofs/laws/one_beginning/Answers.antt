use Rattle.std.proofs.Common.{refl}
use Rattle.ab_lex.proofs.Beginning.{one_beginning, begins_at_token, begins_before_fault}
use Rattle.ab_lex.proofs.laws.one_beginning.Goals as goal

pub returns : goal.returns
returns c = record {
  only = λ text start other h k. one_beginning h k;
  token = λ text t ts h. begins_at_token h refl;
  fault = λ text start fault h k. begins_before_fault h k;
}
