use Rattle.ab_norm.specs.ab_types.specs.Ids.{type_of}
use Rattle.ab_norm.specs.ab_store.proofs.Growing.{extended_itself}
use Rattle.ab_alternatives.specs.ab_instances.specs.ListReadings.{names_read}
use Rattle.ab_alternatives.specs.ab_instances.proofs.Made.{grows_with, typed_with}
use Rattle.ab_uses.proofs.NewVariables.{made_all}
use Rattle.ab_uses.proofs.variables.cell_over_constants.Goals as goal

pub returns-in_err-ty-clause-grows : goal.returns-in_err-ty-clause-grows
returns-in_err-ty-clause-grows c =
    let e = c.in_err-ty.ensures in
    grows_with c.args.types.now c.type_over.new.types c.args.store.now c.args.store.now e.kept e.kinds e.constants c.requires.store (extended_itself c.args.store.now) (typed_with c.args.types.now c.type_over.new.types c.args.store.now e.kept c.requires.store)

pub returns-in_err-hint-clause-grows : goal.returns-in_err-hint-clause-grows
returns-in_err-hint-clause-grows c =
    let e = c.in_ok-ty.ensures in
    grows_with c.args.types.now c.type_over.new.types c.args.store.now c.args.store.now e.kept e.kinds e.constants c.requires.store (extended_itself c.args.store.now) (typed_with c.args.types.now c.type_over.new.types c.args.store.now e.kept c.requires.store)

pub returns-clause-grows : goal.returns-clause-grows
returns-clause-grows c =
    let e = c.in_ok-ty.ensures in
    let typed = typed_with c.args.types.now c.type_over.new.types c.args.store.now e.kept c.requires.store in
    grows_with c.args.types.now c.type_over.new.types c.args.store.now c.cell.new.self e.kept e.kinds e.constants c.requires.store c.cell.ensures.before (c.cell.ensures.typed c.type_over.new.types typed e.held)

pub returns-clause-all : goal.returns-clause-all
returns-clause-all c =
    let T = c.args.types.now in
    let e = c.in_ok-ty.ensures in
    let typed = typed_with T c.type_over.new.types c.args.store.now e.kept c.requires.store in
    let grows = grows_with T c.type_over.new.types c.args.store.now c.cell.new.self e.kept e.kinds e.constants c.requires.store c.cell.ensures.before (c.cell.ensures.typed c.type_over.new.types typed e.held) in
    made_all T c.type_over.new.types c.args.store.now c.cell.new.self c.requires.store grows c.cell.result c.cell.ensures.held c.cell.ensures.fresh c.cell.ensures.one (names_read T c.args.names.now) c.args.hint.now (type_of T c.args.ty) c.in_ok-ty.ty _ c.cell.ensures.hint c.in_ok-hint.ensures c.cell.ensures.ty e.reads
