use Rattle.std.proofs.Common.{◌≢◌, Err, ap, rules}
use Rattle.std.proofs.lemmas.List.Elements.{All-take}
use Rattle.std.proofs.lemmas.Result.{err_from_is_err_and}
use Rattle.ab_syntax.specs.ab_expressions.specs.Tokens.{IsTokenOf}
use Rattle.ab_sigmod.specs.FileNames.{File, IsTitle}
use Rattle.ab_sigmod.proofs.Sentences.{stand, no_tokens_read, no_title_read, other_title_read, title_read}
use Rattle.ab_sigmod.proofs.file_text.open_text.Goals as goal

pub returns-in_err-text : goal.returns-in_err-text
returns-in_err-text c =
    let p = err_from_is_err_and c.from_residual.result c.from_residual.ensures.1 in
    let f : File = record { base = c.args.base.now; kind = c.args.kind } in
    rw (p.1, p.2) (no_tokens_read c.args.bytes.items f _ c.in_err-text.ensures)

pub sentence_len-len-requires : goal.sentence_len-len-requires
sentence_len-len-requires c =
    let t = c.in_ok-text.text in
    rw (c.deref.ensures.value, c.deref-2.ensures.value) (stand c.args.bytes.items t.bytes.items t.tokens.items c.in_ok-text.ensures.0 c.in_ok-text.ensures.1)

pub parse_title-requires : goal.parse_title-requires
parse_title-requires c =
    let t = c.in_ok-text.text in
    let all = stand c.args.bytes.items t.bytes.items t.tokens.items c.in_ok-text.ensures.0 c.in_ok-text.ensures.1 in
    rw (c.deref-3.ensures.value, c.deref-4.ensures.value) (All-take (IsTokenOf t.bytes.items 0) c.sentence_len-len.result t.tokens.items all)

pub returns-in_err-title : goal.returns-in_err-title
returns-in_err-title c =
    let p = err_from_is_err_and c.from_residual-in_err-title.result c.from_residual-in_err-title.ensures.1 in
    let t = c.in_ok-text.text in
    let f : File = record { base = c.args.base.now; kind = c.args.kind } in
    let cut = rw (c.deref.ensures.value, c.deref-2.ensures.value, c.in_ok-text.ensures.0) at c.sentence_len-len.ensures.sentence in
    let syntax = rw (c.deref-3.ensures.value, c.deref-4.ensures.value, c.in_ok-text.ensures.0) at c.in_err-title.ensures.syntax in
    let nested = rw (c.deref-3.ensures.value, c.deref-4.ensures.value, c.in_ok-text.ensures.0) at c.in_err-title.ensures.nested in
    rw (p.1, p.2) (no_title_read c.args.bytes.items t.tokens.items c.sentence_len-len.result cut f c.in_ok-text.ensures.1 c.in_err-title.field-0.0 (λ n e. syntax n (ap Err e)) (λ n e. nested n (ap Err e)))

pub returns-then-ne : goal.returns-then-ne
returns-then-ne c =
    let t = c.in_ok-text.text in
    let f : File = record { base = c.args.base.now; kind = c.args.kind } in
    let cut = rw (c.deref.ensures.value, c.deref-2.ensures.value, c.in_ok-text.ensures.0) at c.sentence_len-len.ensures.sentence in
    let read = rw (c.deref-3.ensures.value, c.deref-4.ensures.value, c.in_ok-text.ensures.0) at c.in_ok-title.ensures.read in
    let right : IsTitle c.args.base.now c.without_folder.result.now = search rules in
    let differ : c.in_ok-title.title ≢ c.without_folder.result.now = search rules in
    other_title_read c.args.bytes.items t.tokens.items c.sentence_len-len.result cut f c.in_ok-text.ensures.1 c.in_ok-title.title read c.without_folder.result.now right differ

pub returns : goal.returns
returns c =
    let t = c.in_ok-text.text in
    let f : File = record { base = c.args.base.now; kind = c.args.kind } in
    let cut = rw (c.deref.ensures.value, c.deref-2.ensures.value, c.in_ok-text.ensures.0) at c.sentence_len-len.ensures.sentence in
    let read = rw (c.deref-3.ensures.value, c.deref-4.ensures.value, c.in_ok-text.ensures.0) at c.in_ok-title.ensures.read in
    let within = rw c.deref-2.ensures.value at c.sentence_len-len.ensures.within in
    let right : IsTitle c.args.base.now c.in_ok-title.title = search rules in
    let titled = title_read c.args.bytes.items t.tokens.items c.sentence_len-len.result cut f c.in_ok-text.ensures.1 c.in_ok-title.title read right in
    (c.in_ok-text.ensures.0, (stand c.args.bytes.items t.bytes.items t.tokens.items c.in_ok-text.ensures.0 c.in_ok-text.ensures.1, within), titled)
