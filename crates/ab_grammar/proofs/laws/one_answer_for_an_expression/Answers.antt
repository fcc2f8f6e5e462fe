use Rattle.ab_grammar.specs.Language.{Expression}
use Rattle.ab_grammar.proofs.OneAnswer as answers
use Rattle.ab_grammar.proofs.laws.one_answer_for_an_expression.Goals as goal

pub returns : goal.returns
returns c = record {
  text_or_syntax = λ ts a i. answers.text_or_syntax Expression ts a i;
  text_or_nested = λ ts a i. answers.text_or_nested Expression ts a i;
  syntax_or_nested = λ ts i j. answers.syntax_or_nested Expression ts i j;
  one_syntax = λ ts i j. answers.one_syntax Expression ts i j;
  one_nested = λ ts i j. answers.one_nested Expression ts i j;
}
