use Rattle.std.specs.Prelude.{is_none}
use Rattle.std.specs.List.{All}
use Rattle.std.proofs.Common.{◌<◌, List, map, length, sym, ◌∙◌, ap, subst}
use Rattle.std.proofs.lemmas.List.Elements.{All-filter}
use Rattle.ab_norm.specs.ab_types.specs.Ids.{type_of}
use Rattle.ab_norm.specs.ab_store.specs.declared.node.CellId.{CellId}
use Rattle.ab_norm.specs.ab_store.specs.declared.node.CellEntry.{CellEntry}
use Rattle.ab_norm.specs.ab_store.specs.Trees.{HoldsCell, cell_in, tree_of}
use Rattle.ab_norm.specs.ab_store.specs.Reading.{binding_of}
use Rattle.ab_norm.proofs.Frame.{if_ok, typed_on, typed_from}
use Rattle.ab_instances.specs.ListReadings.{names_read}
use Rattle.ab_equations.specs.Meanwhile.{unbound_of}
use Rattle.ab_alternatives.specs.RightAlternatives.{closed_by}
use Rattle.ab_logic.specs.Worlds.{variable_at}
use Rattle.ab_alternatives.proofs.conclusions.conclude.Goals as goal

pub close_over-requires-clause-cells : goal.close_over-requires-clause-cells
close_over-requires-clause-cells g c =
    let S = c.args.store.now in
    subst (λ k. All (λ (d : CellId). d.0 < k) c.deref.result.now) (sym (ap length c.copy_resolved.ensures.adds.cells))
    (subst (All (HoldsCell S)) (sym (c.deref.ensures.value ∙ c.in_ok-left.ensures))
    (All-filter (λ d. is_none (binding_of S d)) (HoldsCell S) c.args.cells.now c.requires.cells))

pub returns-clause-adds : goal.returns-clause-adds
returns-clause-adds g c =
    let T = c.args.types.now in
    let S = c.args.store.now in
    typed_on T S c.copy_resolved.new.store c.close_over.new.store (typed_from T S c.copy_resolved.new.store c.copy_resolved.ensures.adds c.requires.store) c.close_over.ensures.adds

pub returns-clause-tree : goal.returns-clause-tree
returns-clause-tree g c =
    let T = c.args.types.now in
    let S = c.args.store.now in
    let V = c.copy_resolved.new.store in
    let xs = c.args.hints.now in
    let ns = names_read T c.args.names.now in
    let F = tree_of T V c.in_ok-resolved.resolved in
    let left = unbound_of S c.args.cells.now in
    if_ok c.close_over.result (λ r e.
    e
    ∙ ap (λ l. closed_by (map (variable_at T V) l) xs ns F) (c.deref.ensures.value ∙ c.in_ok-left.ensures)
    ∙ ap (λ (es : List CellEntry). closed_by (map (λ (d : CellId). record { number = d.0; type = type_of T (cell_in es d).ty; name = (cell_in es d).hint }) left) xs ns F) c.copy_resolved.ensures.adds.cells
    ∙ ap (closed_by (map (variable_at T S) left) xs ns) c.in_ok-resolved.ensures.tree)
    c.close_over.ensures.tree
