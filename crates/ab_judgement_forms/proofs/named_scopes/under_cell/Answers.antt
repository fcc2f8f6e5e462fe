use Rattle.ab_norm.proofs.Frame.{typed_from, typed_more}
use Rattle.ab_judgement_forms.proofs.named_scopes.under_cell.Goals as goal

pub returns-in_err-closed-clause-adds : goal.returns-in_err-closed-clause-adds
returns-in_err-closed-clause-adds c = typed_from c.args.types.now c.args.store.now c.close.new.store c.close.ensures.adds c.requires.store

pub returns-clause-adds : goal.returns-clause-adds
returns-clause-adds c =
    let T = c.args.types.now in
    let S1 = c.close.new.store in
    let first = typed_from T c.args.store.now S1 c.close.ensures.adds c.requires.store in
    typed_more T c.args.store.now S1 c.lam.new.self first.before first.cells c.lam.ensures.before c.lam.ensures.cells (c.lam.ensures.typed T first.typed (c.cell_type-ty.ensures.typed T c.requires.store))
