use Rattle.std.proofs.Common.{rules}
use Rattle.ab_norm.proofs.Frame.{typed_more}
use Rattle.ab_judgement_forms.proofs.named_scopes.+exists_cells.Goals as goal

pub returns-in_err-abstraction-in-len1-up-clause-adds : goal.returns-in_err-abstraction-in-len1-up-clause-adds
returns-in_err-abstraction-in-len1-up-clause-adds t c =
    let T = c.args.types.now in
    let first = c.exists_cells.ensures.adds in
    typed_more T c.args.store.now c.exists_cells.new.store c.lam.new.self first.before first.cells c.lam.ensures.before c.lam.ensures.cells (c.lam.ensures.typed T first.typed (search rules))

pub returns-in_err-args-in-len1-up-clause-adds : goal.returns-in_err-args-in-len1-up-clause-adds
returns-in_err-args-in-len1-up-clause-adds t c =
    let T = c.args.types.now in
    let first = c.exists_cells.ensures.adds in
    typed_more T c.args.store.now c.exists_cells.new.store c.lam.new.self first.before first.cells c.lam.ensures.before c.lam.ensures.cells (c.lam.ensures.typed T first.typed (search rules))

pub returns-in_ok-args-in-len1-up-clause-adds : goal.returns-in_ok-args-in-len1-up-clause-adds
returns-in_ok-args-in-len1-up-clause-adds t c =
    let T = c.args.types.now in
    let first = c.exists_cells.ensures.adds in
    let second = typed_more T c.args.store.now c.exists_cells.new.store c.lam.new.self first.before first.cells c.lam.ensures.before c.lam.ensures.cells (c.lam.ensures.typed T first.typed (search rules)) in
    typed_more T c.args.store.now c.lam.new.self c.spine.new.self second.before second.cells c.spine.ensures.before c.spine.ensures.cells (c.spine.ensures.typed T second.typed (search rules))
