use Rattle.std.proofs.Common.{sym, subst}
use Rattle.std.proofs.lemmas.Result.{err_from_is_err_and}
use Rattle.ab_grammar.specs.Token.{comma}
use Rattle.ab_grammar.specs.FileTable.{Names}
use Rattle.ab_grammar.proofs.Following.{BeforeStop}
use Rattle.ab_syntax.specs.Lists.{file_names}
use Rattle.ab_expressions.specs.Reader.{rest}
use Rattle.ab_syntax.proofs.Passing.{as_they_are}
use Rattle.ab_syntax.proofs.Repeating.{taken, left_there, last_item, ItemNext, comes_first, comes_later, one_more, no_more_items}
use Rattle.ab_syntax.proofs.file_items.names.Goals as goal

pub loop-names-init : goal.loop-names-init
loop-names-init c =
    let ks = rest c.args.text.now c.args.here.now in
    subst (λ xs. ItemNext file_names ks xs ks) (sym c.new-names.ensures.items) comes_first

pub returns-in_err-take : goal.returns-in_err-take
returns-in_err-take c =
    let p = err_from_is_err_and c.from_residual.result c.from_residual.ensures.1 in
    rw (p.1, p.2) (no_more_items file_names (rest c.args.text.now c.args.here.now) _ _ _ _ c.loop-names.invariant c.in_err-take.ensures)

pub returns-then-not-takes : goal.returns-then-not-takes
returns-then-not-takes c =
    let ks = rest c.args.text.now c.args.here.now in
    let read = one_more file_names ks _ _ _ _ c.loop-names.invariant c.in_ok-take.ensures in
    let left = left_there comma (rest c.args.text.now c.take.new.here) (rest c.args.text.now c.takes.new.here) c.takes.result c.if-not-takes.true c.takes.ensures in
    rw (c.from_vec.ensures, c.in_ok-add.ensures, left.1) (as_they_are Names BeforeStop ks _ _ (last_item file_names ks _ _ left.0 read))

pub loop-names-preserved : goal.loop-names-preserved
loop-names-preserved c =
    let read = one_more file_names (rest c.args.text.now c.args.here.now) _ _ _ _ c.loop-names.invariant c.in_ok-take.ensures in
    let there = taken comma _ _ c.takes.result c.if-not-takes.false c.takes.ensures in
    rw c.in_ok-add.ensures (comes_later there read)
