use Rattle.std.proofs.Common.{map, Some, ◌∙◌, ap, subst}
use Rattle.ab_norm.specs.ab_store.specs.Trees.{node_tree}
use Rattle.ab_norm.specs.ab_store.specs.Naming.{NodeIsTyped}
use Rattle.ab_norm.proofs.Frame.{if_ok}
use Rattle.ab_unifiers.specs.Unification.{or_else, bodies, rigid_heads, parts}
use Rattle.ab_norm.specs.ab_store.specs.Reading.{cell_variable}
use Rattle.ab_patterns.specs.EquationReadings.{equation_of, simple_of}
use Rattle.ab_patterns.proofs.Rules.{at_equal, at_lams, at_spines, true_or_not}
use Rattle.ab_patterns.proofs.rigid_rules.try_simple_rules.Goals as goal

pub returns-then-branch-clause-rule : goal.returns-then-branch-clause-rule
returns-then-branch-clause-rule c =
    let types = c.args.types.now in
    let store = c.args.store.now in
    let e = equation_of types store c.args.equation in
    let ys = map (cell_variable types store) c.args.flexible.now.items in
    ap (λ l. Some (parts (map (equation_of types store) l))) c.new.ensures.items
    ∙ at_equal ys e ((true_or_not c.in_ok-are_same.field-0 _ c.in_ok-are_same.ensures).0 c.if-branch.true) (or_else (bodies e.place e.left e.right) (rigid_heads ys e.place e.left e.right))

pub returns-in-Lam-view-clause-rule : goal.returns-in-Lam-view-clause-rule
returns-in-Lam-view-clause-rule c =
    let types = c.args.types.now in
    let store = c.args.store.now in
    let e = equation_of types store c.args.equation in
    let ys = map (cell_variable types store) c.args.flexible.now.items in
    if_ok c.bodies.result (λ r made.
    at_lams ys e ((true_or_not c.in_ok-are_same.field-0 _ c.in_ok-are_same.ensures).1 c.if-branch.false) _ _ _ _ _ _
    (c.view.ensures.tree types ∙ ap (node_tree types store) c.in-Lam.is) (c.view-in-Lam.ensures.tree types ∙ ap (node_tree types store) c.in-Lam-view.is)
    (simple_of types store r) (made types store)) c.bodies.ensures.rule

pub returns-in-Spine-view-2-clause-rule : goal.returns-in-Spine-view-2-clause-rule
returns-in-Spine-view-2-clause-rule c =
    let types = c.args.types.now in
    let store = c.args.store.now in
    let e = equation_of types store c.args.equation in
    let ys = map (cell_variable types store) c.args.flexible.now.items in
    if_ok c.heads.result (λ r made.
    at_spines ys e ((true_or_not c.in_ok-are_same.field-0 _ c.in_ok-are_same.ensures).1 c.if-branch.false) _ _ _ _
    (c.view.ensures.tree types ∙ ap (node_tree types store) c.in-Spine.is) (c.view-in-Spine.ensures.tree types ∙ ap (node_tree types store) c.in-Spine-view-2.is)
    (simple_of types store r)
    (rw (← c.as_slice.ensures, ← c.as_slice-in-Spine-view-2.ensures) (made types store c.len.ensures.table
    (subst (NodeIsTyped types) c.in-Spine.is (c.view.ensures.typed types c.requires.store)) (subst (NodeIsTyped types) c.in-Spine-view-2.is (c.view-in-Spine.ensures.typed types c.requires.store))))) c.heads.ensures.rule
