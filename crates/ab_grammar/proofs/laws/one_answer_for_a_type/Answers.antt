use Rattle.ab_grammar.specs.Language.{TypeExpression}
use Rattle.ab_grammar.proofs.OneAnswer as answers
use Rattle.ab_grammar.proofs.laws.one_answer_for_a_type.Goals as goal

pub returns : goal.returns
returns c = record {
  text_or_syntax = λ ts a i. answers.text_or_syntax TypeExpression ts a i;
  text_or_nested = λ ts a i. answers.text_or_nested TypeExpression ts a i;
  syntax_or_nested = λ ts i j. answers.syntax_or_nested TypeExpression ts i j;
  one_syntax = λ ts i j. answers.one_syntax TypeExpression ts i j;
  one_nested = λ ts i j. answers.one_nested TypeExpression ts i j;
}
