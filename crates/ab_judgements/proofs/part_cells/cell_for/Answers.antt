use Rattle.std.proofs.Common.{ℕ, List, ap, ◌∙◌}
use Rattle.ab_norm.specs.ab_types.specs.Ids.{type_of}
use Rattle.ab_norm.specs.ab_types.specs.declared.ids.TypeId.{TypeId}
use Rattle.ab_norm.specs.ab_store.specs.Trees.{cell_of}
use Rattle.ab_norm.proofs.Frame.{if_both}
use Rattle.ab_judgements.proofs.part_cells.cell_for.Goals as goal

pub returns-clause-entry : goal.returns-clause-entry
returns-clause-entry c =
    let T = c.args.types.now in
    let V = c.cell.new.self in
    if_both c.cell.result (λ made hint ty.
    ap (λ (h : List ℕ). record { hint = h; type = type_of T (cell_of V made).ty }) (hint ∙ c.in_ok-hint.ensures)
    ∙ ap (λ (A : TypeId). record { hint = c.args.name.now.hint; type = type_of T A }) ty) c.cell.ensures.hint c.cell.ensures.ty
