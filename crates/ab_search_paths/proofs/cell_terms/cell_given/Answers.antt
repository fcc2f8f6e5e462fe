use Rattle.std.proofs.Common.{sym, ◌∙◌, ap}
use Rattle.ab_norm.specs.ab_types.specs.Ids.{type_of}
use Rattle.ab_norm.proofs.Frame.{if_ok}
use Rattle.ab_search_paths.proofs.cell_terms.cell_given.Goals as goal

pub remaining_cell-requires-clause-over : goal.remaining_cell-requires-clause-over
remaining_cell-requires-clause-over c = ap (type_of c.args.types.now) (sym c.cell_type.ensures.ty) ∙ c.in_ok-left.ensures.over

pub returns-clause-typed : goal.returns-clause-typed
returns-clause-typed c = if_ok c.remaining_cell.result (λ r term. (type_of c.args.types.now c.in_ok-left.left, term)) c.remaining_cell.ensures.typed
