use Rattle.std.proofs.Common.{List, [], sym, ◌∙◌, ap, subst}
use Rattle.ab_norm.specs.ab_types.specs.Ids.{type_of}
use Rattle.ab_norm.specs.ab_store.specs.declared.node.CellEntry.{CellEntry}
use Rattle.ab_norm.specs.ab_store.specs.Naming.{IsTerm}
use Rattle.ab_norm.specs.ab_store.specs.Trees.{cell_in}
use Rattle.ab_norm.proofs.Frame.{if_ok, typed_on}
use Rattle.ab_search_paths.proofs.cell_terms.cell_for.Goals as goal

pub returns-clause-typed : goal.returns-clause-typed
returns-clause-typed c =
    let T = c.args.types.now in
    let new = c.over_constants.new.store in
    let inner = c.in_ok-inner.ensures in
    let adds = typed_on T c.args.store.now c.remaining_cell.new.store new inner.adds (c.over_constants.ensures.adds T inner.adds.typed c.requires.constants) in
    if_ok c.over_constants.result
    (λ r is. subst (λ B. IsTerm T new [] r B) (sym (ap (λ (cs : List CellEntry). type_of T (cell_in cs c.args.cell).ty) adds.cells ∙ c.in_ok-left.ensures.first)) is)
    (c.over_constants.ensures.typed T (type_of T c.in_ok-left.left) c.has_unique_ids.ensures.table inner.adds.typed c.requires.constants inner.typed)

pub returns-clause-adds : goal.returns-clause-adds
returns-clause-adds c =
    let T = c.args.types.now in
    let inner = c.in_ok-inner.ensures in
    typed_on T c.args.store.now c.remaining_cell.new.store c.over_constants.new.store inner.adds (c.over_constants.ensures.adds T inner.adds.typed c.requires.constants)
