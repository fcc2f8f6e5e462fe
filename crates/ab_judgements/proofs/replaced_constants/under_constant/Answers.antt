use Rattle.std.proofs.Common.{◌∙◌, ap, codes}
use Rattle.ab_term.specs.Terms.{lam}
use Rattle.ab_norm.specs.Nominals.{nominal_of}
use Rattle.ab_norm.specs.ab_store.specs.Trees.{tree_of}
use Rattle.ab_norm.proofs.Frame.{if_ok, typed_from, typed_more}
use Rattle.ab_judgements.proofs.replaced_constants.under_constant.Goals as goal

pub returns-in_err-closed-clause-adds : goal.returns-in_err-closed-clause-adds
returns-in_err-closed-clause-adds c = typed_from c.args.types.now c.args.store.now c.close.new.store c.in_err-closed.ensures.adds c.requires.store

pub returns-clause-tree : goal.returns-clause-tree
returns-clause-tree c =
    let T = c.args.types.now in
    let a = nominal_of T c.args.constant in
    if_ok c.lam.result (λ r made.
    made T
    ∙ ap (λ x. lam a.type x (tree_of T c.close.new.store c.in_ok-closed.closed)) c.in_ok-hint.ensures
    ∙ ap (lam a.type (codes "x")) (c.in_ok-closed.ensures.reads T (c.has_unique_ids.ensures.table, c.requires.store, c.requires.constant))) c.lam.ensures.tree

pub returns-clause-adds : goal.returns-clause-adds
returns-clause-adds c =
    let T = c.args.types.now in
    let one = typed_from T c.args.store.now c.close.new.store c.in_ok-closed.ensures.adds c.requires.store in
    typed_more T c.args.store.now c.close.new.store c.lam.new.self one.before one.cells c.lam.ensures.before c.lam.ensures.cells (c.lam.ensures.typed T one.typed c.requires.constant)
