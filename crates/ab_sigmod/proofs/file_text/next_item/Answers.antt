use Rattle.std.proofs.Common.{◌≡◌, ◌≢◌, List, [], Err, take, ap, subst, rules, arith}
use Rattle.std.proofs.lemmas.List.{drop-drop}
use Rattle.std.proofs.lemmas.Result.{err_from_is_err_and}
use Rattle.ab_lex.specs.declared.token.Token.{Token as Lexed}
use Rattle.ab_grammar.specs.FileTokens.{sentence}
use Rattle.ab_syntax.specs.ab_expressions.specs.Tokens.{tokens_from}
use Rattle.ab_sigmod.specs.Texts.{unread}
use Rattle.ab_sigmod.proofs.Sentences.{to_end, some_taken, item_read, no_item_read}
use Rattle.ab_sigmod.proofs.file_text.next_item.Goals as goal

pub returns-in_err-item-clause-item : goal.returns-in_err-item-clause-item
returns-in_err-item-clause-item c =
    let p = err_from_is_err_and c.from_residual.result c.from_residual.ensures.1 in
    let t = c.args.text.now in
    let n = c.sentence_len-len.result in
    let some : unread t ≢ [] = search rules in
    let cut = rw (c.deref.ensures.value, c.deref-2.ensures.value) at c.sentence_len-len.ensures.sentence in
    let cut_here = subst (λ (us : List Lexed). tokens_from t.bytes.items 0 (take n us) ≡ sentence (tokens_from t.bytes.items 0 us)) (to_end t.tokens.items t.here) cut in
    let syntax = rw (c.deref.ensures.value, c.deref-3.ensures.value, to_end t.tokens.items t.here) at c.in_err-item.ensures.syntax in
    let nested = rw (c.deref.ensures.value, c.deref-3.ensures.value, to_end t.tokens.items t.here) at c.in_err-item.ensures.nested in
    rw (p.1, p.2) (no_item_read t.bytes.items (unread t) n cut_here c.args.kind some c.in_err-item.field-0.0 (λ m e. syntax m (ap Err e)) (λ m e. nested m (ap Err e)))

pub returns-clause-item : goal.returns-clause-item
returns-clause-item c =
    let t = c.args.text.now in
    let n = c.sentence_len-len.result in
    let cut = rw (c.deref.ensures.value, c.deref-2.ensures.value) at c.sentence_len-len.ensures.sentence in
    let cut_here = subst (λ (us : List Lexed). tokens_from t.bytes.items 0 (take n us) ≡ sentence (tokens_from t.bytes.items 0 us)) (to_end t.tokens.items t.here) cut in
    let read = rw (c.deref.ensures.value, c.deref-3.ensures.value, to_end t.tokens.items t.here) at c.in_ok-item.ensures.read in
    let some : unread t ≢ [] = search rules in
    let taken = some_taken t.bytes.items (unread t) n some cut_here in
    (item_read t.bytes.items (unread t) n cut_here c.args.kind _ _ (drop-drop n t.here t.tokens.items) read, omega (arith, taken))
