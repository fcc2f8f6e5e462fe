use Rattle.ab_grammar.specs.Grammar.{Text}
use Rattle.ab_language_laws.specs.NestingMarks.{marks, nestings}
use Rattle.ab_language_laws.proofs.Agreeing.{text_alike}
use Rattle.ab_language_laws.proofs.Telling as telling
use Rattle.ab_language_laws.proofs.depths.an_expression_is_accepted_where_no_token_is_too_deep.Goals as goal

pub returns : goal.returns
returns c = record {
  text = telling.accepted_text Text;
  allowed = telling.accepted_allowed Text (λ ts t d. nestings (marks d.1)) text_alike;
  accepted = telling.allowed_accepted Text (λ ts t d. nestings (marks d.1)) text_alike;
  before_a_fault = telling.before_a_fault Text (λ ts t d. nestings (marks d.1)) text_alike;
}
