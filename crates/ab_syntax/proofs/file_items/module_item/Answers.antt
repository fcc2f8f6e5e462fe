use Rattle.std.proofs.Common.{List, codes, sym, subst}
use Rattle.std.proofs.lemmas.Result.{err_from_is_err_and}
use Rattle.ab_grammar.specs.Token.{Token, word}
use Rattle.ab_grammar.specs.declared.file.FileKind.TheVariants.{Module}
use Rattle.ab_grammar.specs.FileTable.{ItemForm}
use Rattle.ab_grammar.specs.CommandTable.{StandsAnywhere}
use Rattle.ab_grammar.proofs.Following.{Without, BeforeStop}
use Rattle.ab_grammar.proofs.FileRows.{with_modules, with_clause, behind_accumulation, program_clause}
use Rattle.ab_expressions.specs.Reader.{rest}
use Rattle.ab_syntax.proofs.Passing.{refused_on, refused_first, refused_from}
use Rattle.ab_syntax.proofs.WordsTaken.{word_taken, no_word_taken}
use Rattle.ab_syntax.proofs.file_items.module_item.Goals as goal

pub returns-in_err-files : goal.returns-in_err-files
returns-in_err-files c =
    let p = err_from_is_err_and c.from_residual.result c.from_residual.ensures.1 in
    let ks = rest c.args.text.now c.args.here.now in
    let there = word_taken (codes "accumulate") ks _ c.takes_word.result c.if-takes_word.true c.takes_word.ensures in
    let behind = (behind_accumulation (codes "accumulate")).first_read _ _ tt there.1 in
    rw (p.1, p.2) (refused_on (with_modules ks there.0) _ _ (refused_on behind _ _ c.in_err-files.ensures))

pub returns-then-takes_word : goal.returns-then-takes_word
returns-then-takes_word c =
    let ks = rest c.args.text.now c.args.here.now in
    let there = word_taken (codes "accumulate") ks _ c.takes_word.result c.if-takes_word.true c.takes_word.ensures in
    let behind = (behind_accumulation (codes "accumulate")).first_read _ _ tt there.1 in
    (with_modules ks there.0).reads _ _ (behind.reads _ _ c.in_ok-files.ensures)

pub returns-in_err-head : goal.returns-in_err-head
returns-in_err-head c =
    let p = err_from_is_err_and c.from_residual-in_err-head.result c.from_residual-in_err-head.ensures.1 in
    let ks = rest c.args.text.now c.args.here.now in
    let ms = rest c.args.text.now c.takes_word.new.here in
    let none = no_word_taken (codes "accumulate") ks ms c.takes_word.result c.if-takes_word.false c.takes_word.ensures in
    let without = subst (λ (w : List Token). Without (StandsAnywhere (word (codes "accumulate"))) w) (sym none.1) none.0 in
    rw (p.1, p.2) (refused_from (ItemForm Module) BeforeStop _ _ _ _ none.1 (refused_on (with_clause ms without) _ _ (refused_first program_clause _ _ _ c.in_err-head.ensures)))

pub returns-in_err-body : goal.returns-in_err-body
returns-in_err-body c =
    let p = err_from_is_err_and c.from_residual-in_err-body.result c.from_residual-in_err-body.ensures.1 in
    let ks = rest c.args.text.now c.args.here.now in
    let ms = rest c.args.text.now c.takes_word.new.here in
    let none = no_word_taken (codes "accumulate") ks ms c.takes_word.result c.if-takes_word.false c.takes_word.ensures in
    let without = subst (λ (w : List Token). Without (StandsAnywhere (word (codes "accumulate"))) w) (sym none.1) none.0 in
    rw (p.1, p.2) (refused_from (ItemForm Module) BeforeStop _ _ _ _ none.1 (refused_on (with_clause ms without) _ _ (refused_on (program_clause.first_read _ _ _ c.in_ok-head.ensures) _ _ c.in_err-body.ensures)))

pub returns : goal.returns
returns c =
    let ks = rest c.args.text.now c.args.here.now in
    let ms = rest c.args.text.now c.takes_word.new.here in
    let none = no_word_taken (codes "accumulate") ks ms c.takes_word.result c.if-takes_word.false c.takes_word.ensures in
    let without = subst (λ (w : List Token). Without (StandsAnywhere (word (codes "accumulate"))) w) (sym none.1) none.0 in
    let read = (with_clause ms without).reads _ _ ((program_clause.first_read _ _ _ c.in_ok-head.ensures).reads _ _ c.in_ok-body.ensures) in
    rw c.place_of-place.ensures (rw none.1 at read)
