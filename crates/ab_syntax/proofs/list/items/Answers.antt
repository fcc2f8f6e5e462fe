use Rattle.std.proofs.Common.{Some, ap, sym, ◌∙◌, subst}
use Rattle.std.proofs.lemmas.Result.{err_from_is_err_and}
use Rattle.ab_expressions.specs.Kinds.{key_of, IsKey}
use Rattle.ab_expressions.specs.Reader.{rest}
use Rattle.ab_syntax.proofs.Repeating.{taken, left_there, behind_sign, last_item, ItemNext, comes_first, comes_later, one_more, no_more_items}
use Rattle.ab_syntax.proofs.list.items.Goals as goal

pub takes-requires : goal.takes-requires
takes-requires g c = subst IsKey (sym c.requires) g.T.Item.list.key

pub loop-items-init : goal.loop-items-init
loop-items-init g c =
    let ks = rest c.args.text.now c.args.here.now in
    subst (λ xs. ItemNext g.T.Item.list ks xs ks) (sym c.new-items.ensures.items) comes_first

pub returns-in_err-item : goal.returns-in_err-item
returns-in_err-item g c =
    let p = err_from_is_err_and c.from_residual.result c.from_residual.ensures.1 in
    rw (p.1, p.2) (no_more_items g.T.Item.list (rest c.args.text.now c.args.here.now) _ _ _ _ c.loop-items.invariant c.in_err-item.ensures)

pub returns-then-not-takes : goal.returns-then-not-takes
returns-then-not-takes g c =
    let read = one_more g.T.Item.list (rest c.args.text.now c.args.here.now) _ _ _ _ c.loop-items.invariant c.in_ok-item.ensures in
    let left = left_there (key_of c.args.sign) (rest c.args.text.now c.item.new.here) (rest c.args.text.now c.takes.new.here) c.takes.result c.if-not-takes.true c.takes.ensures in
    rw (c.from_vec.ensures, c.in_ok-add.ensures, left.1) (last_item g.T.Item.list (rest c.args.text.now c.args.here.now) _ _ (λ e. left.0 (e ∙ ap Some (sym (ap key_of c.requires)))) read)

pub loop-items-preserved : goal.loop-items-preserved
loop-items-preserved g c =
    let read = one_more g.T.Item.list (rest c.args.text.now c.args.here.now) _ _ _ _ c.loop-items.invariant c.in_ok-item.ensures in
    let there = behind_sign _ _ _ _ (ap key_of c.requires) (taken _ _ _ c.takes.result c.if-not-takes.false c.takes.ensures) in
    rw c.in_ok-add.ensures (comes_later there read)
