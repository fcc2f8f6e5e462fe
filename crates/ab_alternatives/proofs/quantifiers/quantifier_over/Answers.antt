use Rattle.ab_norm.proofs.Frame.{typed_from, typed_more}
use Rattle.ab_alternatives.proofs.quantifiers.quantifier_over.Goals as goal

pub returns-in_err-closed-clause-adds : goal.returns-in_err-closed-clause-adds
returns-in_err-closed-clause-adds c = typed_from c.args.types.now c.args.store.now c.close.new.store c.close.ensures.adds c.requires.store

pub returns-in_err-abstraction-clause-adds : goal.returns-in_err-abstraction-clause-adds
returns-in_err-abstraction-clause-adds c =
    let T = c.args.types.now in
    let first = typed_from T c.args.store.now c.close.new.store c.close.ensures.adds c.requires.store in
    typed_more T c.args.store.now c.close.new.store c.lam.new.self first.before first.cells c.lam.ensures.before c.lam.ensures.cells (c.lam.ensures.typed T first.typed c.requires.ty)

pub returns-in_err-args-clause-adds : goal.returns-in_err-args-clause-adds
returns-in_err-args-clause-adds c =
    let T = c.args.types.now in
    let first = typed_from T c.args.store.now c.close.new.store c.close.ensures.adds c.requires.store in
    typed_more T c.args.store.now c.close.new.store c.lam.new.self first.before first.cells c.lam.ensures.before c.lam.ensures.cells (c.lam.ensures.typed T first.typed c.requires.ty)

pub returns-clause-adds : goal.returns-clause-adds
returns-clause-adds c =
    let T = c.args.types.now in
    let first = typed_from T c.args.store.now c.close.new.store c.close.ensures.adds c.requires.store in
    let second = typed_more T c.args.store.now c.close.new.store c.lam.new.self first.before first.cells c.lam.ensures.before c.lam.ensures.cells (c.lam.ensures.typed T first.typed c.requires.ty) in
    typed_more T c.args.store.now c.lam.new.self c.spine.new.self second.before second.cells c.spine.ensures.before c.spine.ensures.cells (c.spine.ensures.typed T second.typed c.requires.quantifier)
