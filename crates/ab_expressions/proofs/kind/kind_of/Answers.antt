use Rattle.std.proofs.Common.{sym, ap, ◌∙◌}
use Rattle.ab_lex.specs.declared.token.TokenKind.{TokenKind}
use Rattle.ab_expressions.specs.declared.kind.Kind.{Kind}
use Rattle.ab_expressions.specs.Tokens.{token_by}
use Rattle.ab_expressions.specs.Kinds.{meaning}
use Rattle.ab_expressions.proofs.Meanings.{word_kind, sign_kind}
use Rattle.ab_expressions.proofs.kind.kind_of.Goals as goal

pub returns-in-Word : goal.returns-in-Word
returns-in-Word c = λ p.
    let w = c.args.written.now in
    ap (λ (k : TokenKind). token_by k w p) c.in-Word.is ∙ word_kind w _ (sym c.lookup.ensures) p ∙ ap (λ (k : Kind). meaning k w p) (sym c.unwrap_or.ensures)

pub returns-in-Sign : goal.returns-in-Sign
returns-in-Sign c = λ p.
    let w = c.args.written.now in
    ap (λ (k : TokenKind). token_by k w p) c.in-Sign.is ∙ sign_kind w _ (sym c.lookup-in-Sign.ensures) p ∙ ap (λ (k : Kind). meaning k w p) (sym c.unwrap_or-in-Sign.ensures)
