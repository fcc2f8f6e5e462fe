use Rattle.std.proofs.Common.{sym, ◌∙◌}
use Rattle.ab_lex.proofs.Pieces.{blank_stands, line_stands}
use Rattle.ab_lex.proofs.tokenizer.piece_at.Goals as goal

pub returns-then-is_blank : goal.returns-then-is_blank
returns-then-is_blank c = blank_stands c.args.first c.args.rest.now (sym c.is_blank.ensures ∙ c.if-is_blank.true)

pub returns-then-first-eq37 : goal.returns-then-first-eq37
returns-then-first-eq37 c =
    line_stands c.args.first c.args.rest.now c.line_comment.result c.if-first-eq37.true c.line_comment.ensures.within c.line_comment.ensures.ends
