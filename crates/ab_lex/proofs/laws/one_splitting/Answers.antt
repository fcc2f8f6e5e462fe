use Rattle.std.proofs.Common.{sym, ◌∙◌}
use Rattle.ab_lex.proofs.Found.{commands, rest}
use Rattle.ab_lex.proofs.Cuts.{splits, only_one, items_there, only_items}
use Rattle.ab_lex.proofs.Blanks.{blank_or_not}
use Rattle.ab_lex.proofs.laws.one_splitting.Goals as goal

pub returns : goal.returns
returns c = record {
  splits = λ text. (commands text, rest text, splits text);
  only = λ text left other cs others h k. only_one h k;
  items = items_there;
  only_items = λ limit text is others h k. only_items limit text is h ∙ sym (only_items limit text others k);
  blank = blank_or_not;
}
