use Rattle.std.proofs.Common.{List, map, ap, ◌∙◌}
use Rattle.ab_norm.specs.ab_store.specs.declared.node.CellEntry.{CellEntry}
use Rattle.ab_norm.specs.ab_store.specs.declared.node.CellId.{CellId}
use Rattle.ab_norm.specs.ab_store.specs.Trees.{cell_in, tree_of}
use Rattle.ab_norm.proofs.Frame.{if_ok, typed_on}
use Rattle.ab_unify.specs.Problem.{cell_read, cells_at}
use Rattle.ab_judgement_forms.specs.DemandWalks.{exists_names}
use Rattle.ab_judgement_forms.proofs.opened_scopes.demand_body.Goals as goal

pub returns-clause-tree : goal.returns-clause-tree
returns-clause-tree g c =
    let T = c.args.types.now in
    let S = c.args.store.now in
    let S1 = c.opened_all.new.store in
    let opened = c.in_ok-opened.opened in
    if_ok c.exists_cells.result (λ r made.
    made
    ∙ ap (λ (es : List CellEntry). exists_names (map (λ (c : CellId). cell_read T (cell_in es c)) c.args.closed.now) (tree_of T S1 opened)) c.opened_all.ensures.adds.cells
    ∙ ap (exists_names (cells_at T S c.args.closed.now)) c.in_ok-opened.ensures.tree) c.exists_cells.ensures.tree

pub returns-clause-adds : goal.returns-clause-adds
returns-clause-adds g c =
    typed_on c.args.types.now c.args.store.now c.opened_all.new.store c.exists_cells.new.store c.opened_all.ensures.adds c.exists_cells.ensures.adds
