use Rattle.std.proofs.Common.{length, refl, sym, subst}
use Rattle.ab_grammar.specs.Language.{TypeExpression}
use Rattle.ab_expressions.specs.declared.text.Text.{Text}
use Rattle.ab_expressions.specs.SyntaxTrees.{type_of}
use Rattle.ab_expressions.specs.Reader.{AreSeen}
use Rattle.ab_expressions.specs.Tokens.{tokens_from}
use Rattle.ab_syntax.proofs.Told.{refused_token, answered}
use Rattle.ab_syntax.proofs.parser.parse_type_from.Goals as goal

pub returns : goal.returns
returns c =
    let t : Text = record { alloc = c.args.alloc; tokens = c.deref.result; end = length c.args.bytes.now } in
    let all = subst (AreSeen c.args.bytes.now c.args.origin c.args.tokens.now) (sym c.deref.ensures.value) c.in_ok-seen.ensures in
    let here = c.read_type-found.new.here in
    let a = answered t c.args.bytes.now c.args.origin c.args.tokens.now (tokens_from c.args.bytes.now c.args.origin c.args.tokens.now) all refl TypeExpression type_of _ here here (refused_token t c.args.bytes.now c.args.origin c.args.tokens.now (tokens_from c.args.bytes.now c.args.origin c.args.tokens.now) all refl TypeExpression here) c.read_type-found.result c.answer.result c.read_type-found.ensures c.answer.ensures in
    record { read = a.0; syntax = a.1.0; nested = a.1.1 }
