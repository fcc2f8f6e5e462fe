use Rattle.ab_norm.specs.ab_store.proofs.Growing.{extended_itself}
use Rattle.ab_instances.proofs.Made.{grows_with, typed_with}
use Rattle.ab_instances.proofs.raised_variables.make_one.Goals as goal

pub returns-in_err-ty-clause-grows : goal.returns-in_err-ty-clause-grows
returns-in_err-ty-clause-grows c =
    let e = c.in_err-ty.ensures in
    grows_with c.args.types.now c.type_over.new.types c.args.store.now c.args.store.now e.kept e.kinds e.constants c.requires.store (extended_itself c.args.store.now) (typed_with c.args.types.now c.type_over.new.types c.args.store.now e.kept c.requires.store)

pub returns-in_err-hint-clause-grows : goal.returns-in_err-hint-clause-grows
returns-in_err-hint-clause-grows c =
    let e = c.in_ok-ty.ensures in
    grows_with c.args.types.now c.type_over.new.types c.args.store.now c.args.store.now e.kept e.kinds e.constants c.requires.store (extended_itself c.args.store.now) (typed_with c.args.types.now c.type_over.new.types c.args.store.now e.kept c.requires.store)

pub returns-clause-grows : goal.returns-clause-grows
returns-clause-grows c =
    let e = c.in_ok-ty.ensures in
    let typed = typed_with c.args.types.now c.type_over.new.types c.args.store.now e.kept c.requires.store in
    grows_with c.args.types.now c.type_over.new.types c.args.store.now c.cell.new.self e.kept e.kinds e.constants c.requires.store c.cell.ensures.before (c.cell.ensures.typed c.type_over.new.types typed e.held)
