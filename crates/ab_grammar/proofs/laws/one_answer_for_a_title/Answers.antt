use Rattle.ab_grammar.specs.FileTable.{TitleText}
use Rattle.ab_grammar.proofs.OneAnswer as answers
use Rattle.ab_grammar.proofs.laws.one_answer_for_a_title.Goals as goal

pub returns : goal.returns
returns c = record {
  text_or_syntax = λ f ts a i. answers.text_or_syntax (TitleText f) ts a i;
  text_or_nested = λ f ts a i. answers.text_or_nested (TitleText f) ts a i;
  syntax_or_nested = λ f ts i j. answers.syntax_or_nested (TitleText f) ts i j;
  one_syntax = λ f ts i j. answers.one_syntax (TitleText f) ts i j;
  one_nested = λ f ts i j. answers.one_nested (TitleText f) ts i j;
}
