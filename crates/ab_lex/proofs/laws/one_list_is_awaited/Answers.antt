use Rattle.std.proofs.Common.{sym, ◌∙◌}
use Rattle.ab_lex.proofs.Awaiting.{items_after, awaits_there, awaits_only}
use Rattle.ab_lex.proofs.laws.one_list_is_awaited.Goals as goal

pub returns : goal.returns
returns c = record {
  some = λ p more. (items_after p more, awaits_there p more);
  only = λ p more is others h k. awaits_only p more is h ∙ sym (awaits_only p more others k);
}
