use Rattle.std.proofs.Common.{◌≡◌, map, cond, true, codes, sym, ◌∙◌, ap, subst}
use Rattle.std.specs.Prelude.{All}
use Rattle.std.proofs.lemmas.List.Elements.{All-weaker}
use Rattle.std.proofs.lemmas.Result.{on_ok_weaker}
use Rattle.ab_term.specs.Types.{kind}
use Rattle.ab_term.specs.Terms.{variable, spine, terms_of}
use Rattle.ab_term.specs.Typing.{HasType, TakeType}
use Rattle.ab_norm.specs.ab_types.specs.Entries.{signature}
use Rattle.ab_norm.specs.ab_types.specs.Ids.{type_of}
use Rattle.ab_norm.specs.ab_store.specs.declared.node.Node.TheVariants.{Spine}
use Rattle.ab_norm.specs.ab_store.specs.Trees.{cell_of, node_tree, tree_of, head_reading}
use Rattle.ab_norm.specs.ab_store.specs.Reading.{cell_variable}
use Rattle.ab_norm.specs.ab_store.specs.Bindings.{IsResolved}
use Rattle.ab_patterns.specs.ab_unifiers.specs.Patterns.{pattern}
use Rattle.ab_patterns.specs.ab_unifiers.specs.Replacements.{holds, pruned_names, pruned_here}
use Rattle.ab_patterns.specs.ab_unifiers.proofs.Pruning.{spine_args}
use Rattle.ab_unify.specs.StoreChanges.{Changed, AllUnbound}
use Rattle.ab_unify.proofs.Pruned.{listed_if, resolved_unbound, unbound_resolved, args_unbound}
use Rattle.ab_unify.proofs.pruning.prune_here.Goals as goal

pub prune_cell-requires-clause-listed : goal.prune_cell-requires-clause-listed
prune_cell-requires-clause-listed g c =
    let types = c.args.types.now in
    let store = c.args.store.now in
    let tree = tree_of types store in
    let cell = c.in-Cell.cell in
    let y = cell_variable types store cell in
    let args = c.in-Spine.args in
    let node : c.view.result.now ≡ Spine c.in-Spine.head args = sym c.in_ok-copy.ensures ∙ c.in-Spine.is in
    let tree_is : tree c.args.term ≡ spine (variable y) (terms_of (map tree args)) =
    c.view.ensures.tree types ∙ ap (node_tree types store) node ∙ ap (λ h. spine (head_reading types store h) (terms_of (map tree args))) c.in-Cell.is in
    let held : holds (map (cell_variable types store) c.args.flexible.now.items) y ≡ true =
    sym (c.is_flexible.ensures types store) ∙ c.if-is_flexible.true in
    listed_if types store c.args.flexible.now.items cell held

pub prune_cell-requires-clause-resolved : goal.prune_cell-requires-clause-resolved
prune_cell-requires-clause-resolved g c =
    let types = c.args.types.now in
    let store = c.args.store.now in
    let tree = tree_of types store in
    let cell = c.in-Cell.cell in
    let y = cell_variable types store cell in
    let args = c.in-Spine.args in
    let node : c.view.result.now ≡ Spine c.in-Spine.head args = sym c.in_ok-copy.ensures ∙ c.in-Spine.is in
    let tree_is : tree c.args.term ≡ spine (variable y) (terms_of (map tree args)) =
    c.view.ensures.tree types ∙ ap (node_tree types store) node ∙ ap (λ h. spine (head_reading types store h) (terms_of (map tree args))) c.in-Cell.is in
    subst (All (IsResolved store)) (sym c.as_slice.ensures)
    (All-weaker (λ t. AllUnbound store (tree t)) (IsResolved store) (λ t clear. unbound_resolved types store t clear) args
    (args_unbound types store tree (variable y) args (subst (AllUnbound store) tree_is (resolved_unbound types store c.args.term c.requires.resolved))))

pub prune_cell-requires-clause-typed : goal.prune_cell-requires-clause-typed
prune_cell-requires-clause-typed g c =
    let types = c.args.types.now in
    let store = c.args.store.now in
    let tree = tree_of types store in
    let cell = c.in-Cell.cell in
    let y = cell_variable types store cell in
    let args = c.in-Spine.args in
    let node : c.view.result.now ≡ Spine c.in-Spine.head args = sym c.in_ok-copy.ensures ∙ c.in-Spine.is in
    let tree_is : tree c.args.term ≡ spine (variable y) (terms_of (map tree args)) =
    c.view.ensures.tree types ∙ ap (node_tree types store) node ∙ ap (λ h. spine (head_reading types store h) (terms_of (map tree args))) c.in-Cell.is in
    let G = c.requires.term.0 in
    let r = spine_args (signature types) G y (terms_of (map tree args)) c.requires.term.1 (subst (λ u. HasType (signature types) G u c.requires.term.1) tree_is c.requires.term.2.1) in
    (G, r.0, subst (λ l. TakeType (signature types) G (terms_of (map tree l)) (type_of types (cell_of store cell).ty) (kind r.0)) (sym c.as_slice.ensures) r.2)

pub returns-then-is_flexible-clause-changed : goal.returns-then-is_flexible-clause-changed
returns-then-is_flexible-clause-changed g c =
    let types = c.args.types.now in
    let store = c.args.store.now in
    let tree = tree_of types store in
    let cell = c.in-Cell.cell in
    let y = cell_variable types store cell in
    let args = c.in-Spine.args in
    let node : c.view.result.now ≡ Spine c.in-Spine.head args = sym c.in_ok-copy.ensures ∙ c.in-Spine.is in
    let tree_is : tree c.args.term ≡ spine (variable y) (terms_of (map tree args)) =
    c.view.ensures.tree types ∙ ap (node_tree types store) node ∙ ap (λ h. spine (head_reading types store h) (terms_of (map tree args))) c.in-Cell.is in
    let held : holds (map (cell_variable types store) c.args.flexible.now.items) y ≡ true =
    sym (c.is_flexible.ensures types store) ∙ c.if-is_flexible.true in
    let hs = map (head_reading types store) c.args.names.now in
    let A = type_of types (cell_of store cell).ty in
    on_ok_weaker c.prune_cell.result (λ done T S F change was.
    subst (λ d. Changed T S F d c.prune_cell.new.types c.prune_cell.new.store c.prune_cell.new.flexible.items)
    (ap (λ l. pruned_names (codes "x") hs y (pattern A (terms_of (map tree l))) change) c.as_slice.ensures
    ∙ sym (ap (λ u. pruned_here (codes "x") hs u change) tree_is
    ∙ ap (λ b. cond b (pruned_names (codes "x") hs y (pattern A (terms_of (map tree args))) change) change) (ap (λ l. holds l y) (sym was.still) ∙ held)))
    (done T S F change was)) c.prune_cell.ensures.changed
