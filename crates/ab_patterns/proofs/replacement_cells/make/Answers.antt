use Rattle.std.proofs.Common.{ap, ◌∙◌}
use Rattle.ab_norm.specs.ab_types.specs.Ids.{type_of}
use Rattle.ab_norm.proofs.Frame.{if_ok}
use Rattle.ab_unifiers.specs.Patterns.{kept_type}
use Rattle.ab_patterns.proofs.Made.{typed_by_more, youngest}
use Rattle.ab_patterns.proofs.replacement_cells.make.Goals as goal

pub returns-clause-number : goal.returns-clause-number
returns-clause-number c = youngest c.args.store.now c.cell.new.self c.cell.result c.cell.ensures.held c.cell.ensures.fresh c.cell.ensures.one

pub returns-clause-ty : goal.returns-clause-ty
returns-clause-ty c =
    if_ok c.cell.result (λ z is. ap (type_of c.kept_type.new.types) is ∙ c.in_ok-left.ensures.reads ∙ ap (λ a. kept_type c.args.keep.now (type_of c.args.types.now a)) c.cell_type-ty.ensures.ty) c.cell.ensures.ty

pub returns-clause-typed : goal.returns-clause-typed
returns-clause-typed c =
    c.cell.ensures.typed c.kept_type.new.types (typed_by_more c.args.types.now c.kept_type.new.types c.args.store.now c.in_ok-left.ensures.kept c.requires.store) c.in_ok-left.ensures.held

pub returns-in_err-left-clause-typed : goal.returns-in_err-left-clause-typed
returns-in_err-left-clause-typed c = typed_by_more c.args.types.now c.kept_type.new.types c.args.store.now c.in_err-left.ensures.kept c.requires.store

pub returns-in_err-hint-clause-typed : goal.returns-in_err-hint-clause-typed
returns-in_err-hint-clause-typed c = typed_by_more c.args.types.now c.kept_type.new.types c.args.store.now c.in_ok-left.ensures.kept c.requires.store
