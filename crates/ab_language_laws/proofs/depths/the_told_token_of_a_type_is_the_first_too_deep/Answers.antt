use Rattle.std.proofs.Common.{suc, ◌++◌, take, sym, ◌∙◌}
use Rattle.ab_grammar.specs.Grammar.{TypeText}
use Rattle.ab_grammar.specs.Language.{TypeExpression}
use Rattle.ab_language_laws.specs.NestingMarks.{type_marks, nestings}
use Rattle.ab_language_laws.proofs.Agreeing.{type_alike}
use Rattle.ab_language_laws.proofs.Telling as telling
use Rattle.ab_language_laws.proofs.depths.the_told_token_of_a_type_is_the_first_too_deep.Goals as goal

pub returns : goal.returns
returns c = record {
  first = telling.first_told TypeText (λ ts a d. nestings (type_marks d)) type_alike;
  some_text = telling.begun TypeText;
  refused = telling.refused TypeText (λ ts a d. nestings (type_marks d)) type_alike;
  whatever_follows = telling.whatever_follows TypeExpression;
  itself = λ ts i q. let b = telling.begun TypeText ts i q in sym (telling.told_there i ts b.0 q.within) ∙ telling.told_itself (take (suc i) ts ++ b.0) i (telling.type_other b.2);
}
