use Rattle.std.proofs.Common.{◌∙◌}
use Rattle.ab_syntax.proofs.FaultPlaces.{name_blamed, token_blamed}
use Rattle.ab_syntax.proofs.answer.blamed_token.Goals as goal

pub returns-then-is_next : goal.returns-then-is_next
returns-then-is_next c = c.saturating_sub.ensures ∙ name_blamed c.args.text.now c.args.here (c.is_next.ensures.next.0 c.if-is_next.true)

pub returns-else-is_next : goal.returns-else-is_next
returns-else-is_next c = token_blamed c.args.text.now c.args.here (λ e. let h = c.is_next.ensures.next.1 e in let n = c.if-is_next.false in cc)
