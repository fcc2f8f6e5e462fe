use Rattle.std.proofs.Common.{ℕ, List, length, refl, sym, subst}
use Rattle.ab_grammar.specs.FileTable.{TitleText}
use Rattle.ab_grammar.proofs.Following.{Anything, Followed}
use Rattle.ab_expressions.specs.declared.text.Text.{Text}
use Rattle.ab_expressions.specs.Tokens.{tokens_from}
use Rattle.ab_expressions.specs.Reader.{AreSeen, rest}
use Rattle.ab_syntax.proofs.Passing.{fewer_found}
use Rattle.ab_syntax.proofs.Told.{refused_token, answered}
use Rattle.ab_syntax.proofs.file_items.parse_title.Goals as goal

pub returns : goal.returns
returns c =
    let t : Text = record { alloc = c.args.alloc; tokens = c.deref.result; end = length c.args.bytes.now } in
    let all = subst (AreSeen c.args.bytes.now 0 c.args.tokens.now) (sym c.deref.ensures.value) c.in_ok-seen.ensures in
    let here = c.read_title-found.new.here in
    let ks = tokens_from c.args.bytes.now 0 c.args.tokens.now in
    let G = TitleText c.args.kind in
    let found = fewer_found G Anything Followed (λ r f. tt) (λ (x : List ℕ). x) (rest t 0) (rest t here) c.read_title-found.result c.read_title-found.ensures in
    let a = answered t c.args.bytes.now 0 c.args.tokens.now ks all refl G (λ (x : List ℕ). x) _ here here (refused_token t c.args.bytes.now 0 c.args.tokens.now ks all refl G here) c.read_title-found.result c.answer.result found c.answer.ensures in
    record { read = a.0; syntax = a.1.0; nested = a.1.1 }
