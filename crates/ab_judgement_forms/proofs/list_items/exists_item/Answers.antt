use Rattle.std.proofs.Common.{◌∙◌, List, map, ap}
use Rattle.ab_term.specs.Logical.{existential}
use Rattle.ab_term.specs.Terms.{logical, spine, terms_of}
use Rattle.ab_norm.specs.ab_types.specs.Ids.{type_of}
use Rattle.ab_norm.specs.ab_store.specs.declared.node.TermId.{TermId}
use Rattle.ab_norm.specs.ab_store.specs.Trees.{tree_of}
use Rattle.ab_norm.proofs.Frame.{if_ok, typed_more}
use Rattle.ab_judgement_forms.proofs.ItemsInFocus.{over_items}
use Rattle.ab_judgement_forms.proofs.list_items.exists_item.Goals as goal

pub returns-clause-tree : goal.returns-clause-tree
returns-clause-tree c =
    let T = c.args.types.now in
    let S = c.args.store.now in
    let S1 = c.lam.new.self in
    if_ok c.spine.result (λ r made.
    made T
    ∙ ap (λ (ids : List TermId). spine (logical (existential (type_of T c.args.ty))) (terms_of (map (tree_of T S1) ids))) c.in_ok-args.ensures.items
    ∙ over_items (type_of T c.args.ty) c.in_ok-hint.hint (tree_of T S c.args.body) (tree_of T S1 c.in_ok-abstraction.abstraction) c.requires.ty.1 c.in_ok-hint.ensures (c.in_ok-abstraction.ensures.tree T)) c.spine.ensures.tree

pub returns-clause-adds : goal.returns-clause-adds
returns-clause-adds c =
    let T = c.args.types.now in
    let typed = c.lam.ensures.typed T c.requires.store c.requires.ty.0 in
    typed_more T c.args.store.now c.lam.new.self c.spine.new.self c.lam.ensures.before c.lam.ensures.cells c.spine.ensures.before c.spine.ensures.cells (c.spine.ensures.typed T typed c.requires.ty.0)
