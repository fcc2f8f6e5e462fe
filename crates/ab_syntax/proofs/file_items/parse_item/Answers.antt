use Rattle.std.proofs.Common.{◌≡◌, List, map, length, refl, sym, subst}
use Rattle.ab_lex.specs.declared.token.Token.{Token as Lexed}
use Rattle.ab_grammar.specs.FileTable.{ItemText}
use Rattle.ab_grammar.specs.FileTokens.{item_tokens}
use Rattle.ab_expressions.specs.declared.text.Text.{Text}
use Rattle.ab_expressions.specs.declared.located_tokens.Seen.{Seen}
use Rattle.ab_syntax.specs.FileItems.{item_of}
use Rattle.ab_expressions.specs.Tokens.{tokens_from}
use Rattle.ab_expressions.specs.Reader.{seen, place_of}
use Rattle.ab_syntax.proofs.Told.{refused_token, answered}
use Rattle.ab_syntax.proofs.file_items.parse_item.Goals as goal

pub returns : goal.returns
returns c =
    let t : Text = record { alloc = c.args.alloc; tokens = c.deref.result; end = length c.args.bytes.now } in
    let ks = item_tokens c.args.kind (tokens_from c.args.bytes.now 0 c.args.tokens.now) in
    let tokens = subst (λ (ss : List Seen). map seen ss ≡ ks) (sym c.deref.ensures.value) c.in_ok-seen.ensures.tokens in
    let places = subst (λ (ss : List Seen). map (λ s. s.place) ss ≡ map (place_of 0) c.args.tokens.now) (sym c.deref.ensures.value) c.in_ok-seen.ensures.places in
    let here = c.read_item-found.new.here in
    let G = ItemText c.args.kind in
    let a = answered t c.args.bytes.now 0 c.args.tokens.now ks (tokens, places) refl G item_of _ here here (refused_token t c.args.bytes.now 0 c.args.tokens.now ks (tokens, places) refl G here) c.read_item-found.result c.answer.result c.read_item-found.ensures c.answer.ensures in
    record { read = a.0; syntax = a.1.0; nested = a.1.1 }
