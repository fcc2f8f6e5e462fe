use Rattle.ab_grammar.specs.Grammar.{Text}
use Rattle.ab_grammar.specs.Language.{Expression}
use Rattle.ab_language_laws.specs.NestingMarks.{marks, nestings}
use Rattle.ab_language_laws.proofs.Agreeing.{text_alike}
use Rattle.ab_language_laws.proofs.Telling as telling
use Rattle.ab_language_laws.proofs.depths.the_told_token_is_the_first_too_deep.Goals as goal

pub returns : goal.returns
returns c = record {
  first = telling.first_told Text (λ ts t d. nestings (marks d.1)) text_alike;
  some_text = telling.begun Text;
  refused = telling.refused Text (λ ts t d. nestings (marks d.1)) text_alike;
  whatever_follows = telling.whatever_follows Expression;
}
