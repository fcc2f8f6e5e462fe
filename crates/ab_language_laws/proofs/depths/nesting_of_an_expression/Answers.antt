use Rattle.ab_language_laws.proofs.Agreeing.{text_tokens, text_alike}
use Rattle.ab_language_laws.proofs.depths.nesting_of_an_expression.Goals as goal

pub returns : goal.returns
returns c = record { tokens = λ ts t d. text_tokens d.1; nesting = text_alike }
