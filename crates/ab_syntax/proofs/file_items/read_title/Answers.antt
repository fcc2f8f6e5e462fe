use Rattle.std.proofs.lemmas.Result.{err_from_is_err_and}
use Rattle.ab_grammar.proofs.FileRows.{title}
use Rattle.ab_syntax.proofs.Passing.{refused_first, found_on}
use Rattle.ab_syntax.proofs.file_items.read_title.Goals as goal

pub returns-in_err-keyword : goal.returns-in_err-keyword
returns-in_err-keyword c =
    let p = err_from_is_err_and c.from_residual.result c.from_residual.ensures.1 in
    rw (p.1, p.2) (refused_first (title c.args.kind) _ _ _ (rw c.title_word.ensures at c.in_err-keyword.ensures))

pub returns : goal.returns
returns c = found_on ((title c.args.kind).first_read _ _ _ (rw c.title_word.ensures at c.in_ok-keyword.ensures)) (λ x. x) _ c.name_and.result c.name_and.ensures
