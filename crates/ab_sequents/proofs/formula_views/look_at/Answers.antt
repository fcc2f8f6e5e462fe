use Rattle.std.proofs.Common.{List, map, sym, ap, subst, ◌∙◌}
use Rattle.ab_norm.specs.ab_store.specs.Naming.{HoldsHead, HeadIsTyped, NodeIsTyped}
use Rattle.ab_norm.proofs.Frame.{spine_names}
use Rattle.ab_term.specs.Terms.{terms_of}
use Rattle.ab_norm.specs.ab_store.specs.declared.node.TermId.{TermId}
use Rattle.ab_norm.specs.ab_store.specs.Trees.{tree_of, head_in, node_tree}
use Rattle.ab_sequents.specs.SizeViews.{outer_of, outer_by, role_of}
use Rattle.ab_sequents.proofs.Looks.{of_head}
use Rattle.ab_sequents.proofs.formula_views.look_at.Goals as goal

pub returns-in-Spine-clause-reads : goal.returns-in-Spine-clause-reads
returns-in-Spine-clause-reads c = λ types.
    let store = c.args.store.now in
    let h = head_in types store.cells c.in-Spine.head in
    c.look_by.ensures.reads types
    ∙ ap (λ r. outer_by r h (terms_of (map (tree_of types store) c.as_slice.result.now))) (c.role_of.ensures types store.cells)
    ∙ ap (λ (ts : List TermId). outer_by (role_of h) h (terms_of (map (tree_of types store) ts))) c.as_slice.ensures
    ∙ sym (ap outer_of (c.view.ensures.tree types ∙ ap (node_tree types store) c.in-Spine.is))

pub returns-in-Spine-clause-held : goal.returns-in-Spine-clause-held
returns-in-Spine-clause-held c =
    of_head (HoldsHead c.args.store.now) c.in-Spine.head c.look_by.result (spine_names _ _ c.view.result.now c.in-Spine.head c.in-Spine.args c.in-Spine.is c.view.ensures.earlier).0 c.look_by.ensures.head

pub returns-in-Spine-clause-typed : goal.returns-in-Spine-clause-typed
returns-in-Spine-clause-typed c = λ types is.
    of_head (HeadIsTyped types) c.in-Spine.head c.look_by.result (subst (NodeIsTyped types) c.in-Spine.is (c.view.ensures.typed types is)) c.look_by.ensures.head
