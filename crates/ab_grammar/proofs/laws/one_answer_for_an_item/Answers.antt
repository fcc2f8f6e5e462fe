use Rattle.ab_grammar.specs.FileTable.{ItemText}
use Rattle.ab_grammar.proofs.OneAnswer as answers
use Rattle.ab_grammar.proofs.laws.one_answer_for_an_item.Goals as goal

pub returns : goal.returns
returns c = record {
  text_or_syntax = λ f ts a i. answers.text_or_syntax (ItemText f) ts a i;
  text_or_nested = λ f ts a i. answers.text_or_nested (ItemText f) ts a i;
  syntax_or_nested = λ f ts i j. answers.syntax_or_nested (ItemText f) ts i j;
  one_syntax = λ f ts i j. answers.one_syntax (ItemText f) ts i j;
  one_nested = λ f ts i j. answers.one_nested (ItemText f) ts i j;
}
