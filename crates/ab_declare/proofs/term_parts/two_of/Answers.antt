use Rattle.std.proofs.Common.{length, ap, sym, ◌∙◌, arith}
use Rattle.ab_norm.specs.ab_store.specs.Trees.{node_tree, head_in, tree_of}
use Rattle.ab_declare.proofs.Walks.{two_given}
use Rattle.ab_declare.proofs.term_parts.two_of.Goals as goal

pub returns-in_default : goal.returns-in_default
returns-in_default c = λ types h t u e.
    let S = c.args.store.now in
    let two = two_given (tree_of types S) (head_in types S.cells c.in-Spine.field-0) h c.in-Spine.args t u (sym (c.view.ensures.tree types ∙ ap (node_tree types S) c.in-Spine.is) ∙ e) in
    absurd (omega (arith, two, ap length c.as_slice.ensures, c.in_default.len_below))

pub returns-in_default-2 : goal.returns-in_default-2
returns-in_default-2 c = λ types h t u e.
    let S = c.args.store.now in
    let two = two_given (tree_of types S) (head_in types S.cells c.in-Spine.field-0) h c.in-Spine.args t u (sym (c.view.ensures.tree types ∙ ap (node_tree types S) c.in-Spine.is) ∙ e) in
    absurd (omega (arith, two, ap length c.as_slice.ensures, c.in_default.len_at_least))
