use Rattle.std.proofs.Common.{map, sym, ◌∙◌, ap}
use Rattle.std.proofs.lemmas.List.{length-map}
use Rattle.ab_term.specs.Terms.{spine, terms_of}
use Rattle.ab_norm.specs.ab_store.specs.Trees.{tree_of, head_reading, node_tree}
use Rattle.ab_theory.specs.Uses.{left_side, right_side}
use Rattle.ab_uses.proofs.Items.{two_only}
use Rattle.ab_uses.proofs.Shapes.{left_other, right_other}
use Rattle.ab_uses.proofs.formulas.sides_of.Goals as goal

pub returns-then-args-eq2-clause-left : goal.returns-then-args-eq2-clause-left
returns-then-args-eq2-clause-left c = λ types.
    let store = c.args.store.now in
    sym (ap left_side
    (c.view.ensures.tree types
    ∙ ap (node_tree types store) c.in-Spine.is
    ∙ ap (λ ts. spine (head_reading types store c.in-Spine.field-0) (terms_of (map (tree_of types store) ts))) (sym c.as_slice-args.ensures ∙ two_only c.as_slice-args.result.now (record { 0 = 0 }) c.if-args-eq2.true)))

pub returns-then-args-eq2-clause-right : goal.returns-then-args-eq2-clause-right
returns-then-args-eq2-clause-right c = λ types.
    let store = c.args.store.now in
    sym (ap right_side
    (c.view.ensures.tree types
    ∙ ap (node_tree types store) c.in-Spine.is
    ∙ ap (λ ts. spine (head_reading types store c.in-Spine.field-0) (terms_of (map (tree_of types store) ts))) (sym c.as_slice-args.ensures ∙ two_only c.as_slice-args.result.now (record { 0 = 0 }) c.if-args-eq2.true)))

pub returns-else-args-eq2-clause-left : goal.returns-else-args-eq2-clause-left
returns-else-args-eq2-clause-left c = λ types.
    let store = c.args.store.now in
    let is = c.view.ensures.tree types
    ∙ ap (node_tree types store) c.in-Spine.is
    ∙ ap (λ ts. spine (head_reading types store c.in-Spine.field-0) (terms_of (map (tree_of types store) ts))) (sym c.as_slice-args.ensures) in
    sym (ap left_side is
    ∙ left_other (head_reading types store c.in-Spine.field-0) (map (tree_of types store) c.as_slice-args.result.now) (λ two. c.if-args-eq2.false (sym (length-map c.as_slice-args.result.now (tree_of types store)) ∙ two))
    ∙ sym is)

pub returns-else-args-eq2-clause-right : goal.returns-else-args-eq2-clause-right
returns-else-args-eq2-clause-right c = λ types.
    let store = c.args.store.now in
    let is = c.view.ensures.tree types
    ∙ ap (node_tree types store) c.in-Spine.is
    ∙ ap (λ ts. spine (head_reading types store c.in-Spine.field-0) (terms_of (map (tree_of types store) ts))) (sym c.as_slice-args.ensures) in
    sym (ap right_side is
    ∙ right_other (head_reading types store c.in-Spine.field-0) (map (tree_of types store) c.as_slice-args.result.now) (λ two. c.if-args-eq2.false (sym (length-map c.as_slice-args.result.now (tree_of types store)) ∙ two))
    ∙ sym is)
