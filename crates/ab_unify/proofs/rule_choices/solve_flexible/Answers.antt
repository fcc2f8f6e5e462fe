use Rattle.std.proofs.Common.{◌≡◌, map, sym, ◌∙◌, ap}
use Rattle.ab_term.specs.Terms.{lam, spine, terms_of}
use Rattle.ab_norm.specs.ab_types.specs.Ids.{type_of}
use Rattle.ab_norm.specs.ab_store.specs.Trees.{tree_of, node_tree, head_reading}
use Rattle.ab_norm.proofs.Frame.{typed_none}
use Rattle.ab_unify.specs.Problem.{cells_read, variables_read}
use Rattle.ab_unify.specs.Outcome.{last_rules}
use Rattle.ab_unify.proofs.Ruled.{tells_none}
use Rattle.ab_unify.proofs.Chosen.{lam_left, lam_right}
use Rattle.ab_unify.proofs.rule_choices.solve_flexible.Goals as goal

pub returns-in-Lam-clause-tells : goal.returns-in-Lam-clause-tells
returns-in-Lam-clause-tells g c =
    let types = c.args.types.now in
    let store = c.args.store.now in
    let F = c.args.flexible.now.items in
    let tree = tree_of types store in
    let cells = cells_read types store in
    let ys = variables_read types store F in
    let right = tree c.args.right in
    let A = type_of types c.in-Lam.field-0 in
    let left_is : tree c.args.left ≡ lam A c.in-Lam.field-1 (tree c.in-Lam.field-2) = c.view.ensures.tree types ∙ ap (node_tree types store) (sym c.in_ok-copy.ensures ∙ c.in-Lam.is) in
    tells_none types store store F c.requires.store c.requires.free (typed_none types store c.requires.store) (last_rules cells ys (tree c.args.left) right)
    (ap (λ u. last_rules cells ys u right) left_is ∙ lam_left cells ys A c.in-Lam.field-1 (tree c.in-Lam.field-2) right)

pub returns-in-Lam-2-clause-tells : goal.returns-in-Lam-2-clause-tells
returns-in-Lam-2-clause-tells g c =
    let types = c.args.types.now in
    let store = c.args.store.now in
    let F = c.args.flexible.now.items in
    let tree = tree_of types store in
    let cells = cells_read types store in
    let ys = variables_read types store F in
    let right = tree c.args.right in
    let A = type_of types c.in-Lam-2.field-0 in
    let h = head_reading types store c.in-Spine.head in
    let ts = terms_of (map tree c.in-Spine.args) in
    let left_is : tree c.args.left ≡ spine h ts = c.view.ensures.tree types ∙ ap (node_tree types store) (sym c.in_ok-copy.ensures ∙ c.in-Spine.is) in
    let right_is : right ≡ lam A c.in-Lam-2.field-1 (tree c.in-Lam-2.field-2) = c.view-in-Spine.ensures.tree types ∙ ap (node_tree types store) (sym c.in_ok-copy-in-Spine.ensures ∙ c.in-Lam-2.is) in
    tells_none types store store F c.requires.store c.requires.free (typed_none types store c.requires.store) (last_rules cells ys (tree c.args.left) right)
    (ap (λ u. last_rules cells ys u right) left_is ∙ ap (λ u. last_rules cells ys (spine h ts) u) right_is ∙ lam_right cells ys h ts A c.in-Lam-2.field-1 (tree c.in-Lam-2.field-2))
