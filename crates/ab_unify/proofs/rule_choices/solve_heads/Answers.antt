use Rattle.std.proofs.Common.{◌≡◌, map, codes, false, sym, ◌∙◌, ap, subst}
use Rattle.std.proofs.lemmas.List.Elements.{All-weaker}
use Rattle.ab_term.specs.Types.{kind}
use Rattle.ab_term.specs.Terms.{variable, spine, terms_of}
use Rattle.ab_term.specs.Typing.{HasType, TakeType}
use Rattle.ab_term.proofs.Lists.{Contains-map}
use Rattle.ab_norm.specs.ab_types.specs.Entries.{signature}
use Rattle.ab_norm.specs.ab_store.specs.Trees.{tree_of, head_reading}
use Rattle.ab_norm.specs.ab_store.specs.Reading.{cell_variable}
use Rattle.ab_norm.specs.ab_store.specs.Bindings.{IsResolved}
use Rattle.ab_norm.specs.ab_store.specs.Naming.{IsTerm}
use Rattle.ab_norm.proofs.Frame.{if_ok}
use Rattle.ab_patterns.specs.ab_unifiers.specs.Patterns.{pattern}
use Rattle.ab_patterns.specs.ab_unifiers.specs.Replacements.{is_flexible}
use Rattle.ab_patterns.specs.ab_unifiers.specs.Unification.{pattern_of}
use Rattle.ab_patterns.specs.ab_unifiers.proofs.Agreeing.{contains_holds}
use Rattle.ab_patterns.specs.ab_unifiers.proofs.Pruning.{spine_args}
use Rattle.ab_unify.specs.Problem.{cells_read, variables_read}
use Rattle.ab_unify.specs.StoreChanges.{AllUnbound}
use Rattle.ab_unify.specs.Outcome.{Tells, last_rules}
use Rattle.ab_unify.proofs.Pruned.{resolved_unbound, unbound_resolved, args_unbound}
use Rattle.ab_unify.proofs.Chosen.{on_left, on_right}
use Rattle.ab_unify.proofs.rule_choices.solve_heads.Goals as goal

pub solve_rigid-requires-clause-resolved : goal.solve_rigid-requires-clause-resolved
solve_rigid-requires-clause-resolved g c =
    let types = c.args.types.now in
    let store = c.args.store.now in
    let F = c.args.flexible.now.items in
    let tree = tree_of types store in
    let read = head_reading types store in
    let cells = cells_read types store in
    let ys = variables_read types store F in
    let args = c.args.args.now in
    let more = c.args.more.now in
    let ts = terms_of (map tree args) in
    let us = terms_of (map tree more) in
    let typed = c.requires.typed in
    let G = typed.0 in
    All-weaker (λ t. AllUnbound store (tree t)) (IsResolved store) (λ t clear. unbound_resolved types store t clear) more
    (args_unbound types store tree (read c.args.other) more (subst (AllUnbound store) c.requires.right_is (resolved_unbound types store c.args.right c.requires.right)))

pub solve_rigid-requires-clause-typed : goal.solve_rigid-requires-clause-typed
solve_rigid-requires-clause-typed g c =
    let types = c.args.types.now in
    let store = c.args.store.now in
    let F = c.args.flexible.now.items in
    let tree = tree_of types store in
    let read = head_reading types store in
    let cells = cells_read types store in
    let ys = variables_read types store F in
    let args = c.args.args.now in
    let more = c.args.more.now in
    let ts = terms_of (map tree args) in
    let us = terms_of (map tree more) in
    let typed = c.requires.typed in
    let G = typed.0 in
    let z = cell_variable types store c.in-Some-flexible_cell.cell in
    let right_is : tree c.args.right ≡ spine (variable z) us = c.requires.right_is ∙ ap (λ h. spine (read h) us) c.in-Some-flexible_cell.ensures.some.0 in
    let held_z = contains_holds ys z (Contains-map (cell_variable types store) F c.in-Some-flexible_cell.cell c.in-Some-flexible_cell.ensures.some.1) in
    let q = spine_args (signature types) G z us typed.1 (subst (λ u. HasType (signature types) G u typed.1) right_is typed.3.1) in
    (G, q.0, q.2, subst (λ C. IsTerm types store G c.args.left C) q.1 typed.2)

pub returns-in-Some-flexible_cell-clause-tells : goal.returns-in-Some-flexible_cell-clause-tells
returns-in-Some-flexible_cell-clause-tells g c =
    let types = c.args.types.now in
    let store = c.args.store.now in
    let F = c.args.flexible.now.items in
    let tree = tree_of types store in
    let read = head_reading types store in
    let cells = cells_read types store in
    let ys = variables_read types store F in
    let args = c.args.args.now in
    let more = c.args.more.now in
    let ts = terms_of (map tree args) in
    let us = terms_of (map tree more) in
    let typed = c.requires.typed in
    let G = typed.0 in
    let z = cell_variable types store c.in-Some-flexible_cell.cell in
    let right_is : tree c.args.right ≡ spine (variable z) us = c.requires.right_is ∙ ap (λ h. spine (read h) us) c.in-Some-flexible_cell.ensures.some.0 in
    let held_z = contains_holds ys z (Contains-map (cell_variable types store) F c.in-Some-flexible_cell.cell c.in-Some-flexible_cell.ensures.some.1) in
    let rigid : is_flexible ys (read c.args.head) ≡ false = c.flexible_cell.ensures.none c.in-None.is types store in
    let P = pattern z.type us in
    if_ok c.solve_rigid.result (λ r done.
    subst (λ o. Tells types store F c.solve_rigid.new.types c.solve_rigid.new.store c.solve_rigid.new.flexible.items r o)
    (ap (λ u. pattern_of (codes "x") cells ys z u P) c.requires.left_is
    ∙ sym (ap (λ u. last_rules cells ys u (tree c.args.right)) c.requires.left_is ∙ ap (λ u. last_rules cells ys (spine (read c.args.head) ts) u) right_is ∙ on_right cells ys z (read c.args.head) us ts held_z rigid))
    done) c.solve_rigid.ensures.tells

pub solve_rigid-requires-in-None-flexible_cell-2-clause-resolved : goal.solve_rigid-requires-in-None-flexible_cell-2-clause-resolved
solve_rigid-requires-in-None-flexible_cell-2-clause-resolved g c =
    let types = c.args.types.now in
    let store = c.args.store.now in
    let F = c.args.flexible.now.items in
    let tree = tree_of types store in
    let read = head_reading types store in
    let cells = cells_read types store in
    let ys = variables_read types store F in
    let args = c.args.args.now in
    let more = c.args.more.now in
    let ts = terms_of (map tree args) in
    let us = terms_of (map tree more) in
    let typed = c.requires.typed in
    let G = typed.0 in
    All-weaker (λ t. AllUnbound store (tree t)) (IsResolved store) (λ t clear. unbound_resolved types store t clear) args
    (args_unbound types store tree (read c.args.head) args (subst (AllUnbound store) c.requires.left_is (resolved_unbound types store c.args.left c.requires.left)))

pub solve_rigid-requires-in-None-flexible_cell-2-clause-typed : goal.solve_rigid-requires-in-None-flexible_cell-2-clause-typed
solve_rigid-requires-in-None-flexible_cell-2-clause-typed g c =
    let types = c.args.types.now in
    let store = c.args.store.now in
    let F = c.args.flexible.now.items in
    let tree = tree_of types store in
    let read = head_reading types store in
    let cells = cells_read types store in
    let ys = variables_read types store F in
    let args = c.args.args.now in
    let more = c.args.more.now in
    let ts = terms_of (map tree args) in
    let us = terms_of (map tree more) in
    let typed = c.requires.typed in
    let G = typed.0 in
    let y = cell_variable types store c.in-Some.first in
    let left_is : tree c.args.left ≡ spine (variable y) ts = c.requires.left_is ∙ ap (λ h. spine (read h) ts) c.in-Some.ensures.some.0 in
    let held_y = contains_holds ys y (Contains-map (cell_variable types store) F c.in-Some.first c.in-Some.ensures.some.1) in
    let r = spine_args (signature types) G y ts typed.1 (subst (λ u. HasType (signature types) G u typed.1) left_is typed.2.1) in
    (G, r.0, r.2, subst (λ C. IsTerm types store G c.args.right C) r.1 typed.3)

pub returns-in-None-flexible_cell-2-clause-tells : goal.returns-in-None-flexible_cell-2-clause-tells
returns-in-None-flexible_cell-2-clause-tells g c =
    let types = c.args.types.now in
    let store = c.args.store.now in
    let F = c.args.flexible.now.items in
    let tree = tree_of types store in
    let read = head_reading types store in
    let cells = cells_read types store in
    let ys = variables_read types store F in
    let args = c.args.args.now in
    let more = c.args.more.now in
    let ts = terms_of (map tree args) in
    let us = terms_of (map tree more) in
    let typed = c.requires.typed in
    let G = typed.0 in
    let y = cell_variable types store c.in-Some.first in
    let left_is : tree c.args.left ≡ spine (variable y) ts = c.requires.left_is ∙ ap (λ h. spine (read h) ts) c.in-Some.ensures.some.0 in
    let held_y = contains_holds ys y (Contains-map (cell_variable types store) F c.in-Some.first c.in-Some.ensures.some.1) in
    let r = spine_args (signature types) G y ts typed.1 (subst (λ u. HasType (signature types) G u typed.1) left_is typed.2.1) in
    let rigid : is_flexible ys (read c.args.other) ≡ false = c.flexible_cell-in-Some.ensures.none c.in-None-flexible_cell-2.is types store in
    let P = pattern y.type ts in
    if_ok c.solve_rigid-in-None-flexible_cell-2.result (λ r done.
    subst (λ o. Tells types store F c.solve_rigid-in-None-flexible_cell-2.new.types c.solve_rigid-in-None-flexible_cell-2.new.store c.solve_rigid-in-None-flexible_cell-2.new.flexible.items r o)
    (ap (λ u. pattern_of (codes "x") cells ys y u P) c.requires.right_is
    ∙ sym (ap (λ u. last_rules cells ys u (tree c.args.right)) left_is ∙ ap (λ u. last_rules cells ys (spine (variable y) ts) u) c.requires.right_is ∙ on_left cells ys y (read c.args.other) ts us held_y rigid))
    done) c.solve_rigid-in-None-flexible_cell-2.ensures.tells

pub solve_cells-requires-clause-args_resolved : goal.solve_cells-requires-clause-args_resolved
solve_cells-requires-clause-args_resolved g c =
    let types = c.args.types.now in
    let store = c.args.store.now in
    let F = c.args.flexible.now.items in
    let tree = tree_of types store in
    let read = head_reading types store in
    let cells = cells_read types store in
    let ys = variables_read types store F in
    let args = c.args.args.now in
    let more = c.args.more.now in
    let ts = terms_of (map tree args) in
    let us = terms_of (map tree more) in
    let typed = c.requires.typed in
    let G = typed.0 in
    All-weaker (λ t. AllUnbound store (tree t)) (IsResolved store) (λ t clear. unbound_resolved types store t clear) args
    (args_unbound types store tree (read c.args.head) args (subst (AllUnbound store) c.requires.left_is (resolved_unbound types store c.args.left c.requires.left)))

pub solve_cells-requires-clause-more_resolved : goal.solve_cells-requires-clause-more_resolved
solve_cells-requires-clause-more_resolved g c =
    let types = c.args.types.now in
    let store = c.args.store.now in
    let F = c.args.flexible.now.items in
    let tree = tree_of types store in
    let read = head_reading types store in
    let cells = cells_read types store in
    let ys = variables_read types store F in
    let args = c.args.args.now in
    let more = c.args.more.now in
    let ts = terms_of (map tree args) in
    let us = terms_of (map tree more) in
    let typed = c.requires.typed in
    let G = typed.0 in
    All-weaker (λ t. AllUnbound store (tree t)) (IsResolved store) (λ t clear. unbound_resolved types store t clear) more
    (args_unbound types store tree (read c.args.other) more (subst (AllUnbound store) c.requires.right_is (resolved_unbound types store c.args.right c.requires.right)))

pub solve_cells-requires-clause-typed : goal.solve_cells-requires-clause-typed
solve_cells-requires-clause-typed g c =
    let types = c.args.types.now in
    let store = c.args.store.now in
    let F = c.args.flexible.now.items in
    let tree = tree_of types store in
    let read = head_reading types store in
    let cells = cells_read types store in
    let ys = variables_read types store F in
    let args = c.args.args.now in
    let more = c.args.more.now in
    let ts = terms_of (map tree args) in
    let us = terms_of (map tree more) in
    let typed = c.requires.typed in
    let G = typed.0 in
    let y = cell_variable types store c.in-Some.first in
    let left_is : tree c.args.left ≡ spine (variable y) ts = c.requires.left_is ∙ ap (λ h. spine (read h) ts) c.in-Some.ensures.some.0 in
    let held_y = contains_holds ys y (Contains-map (cell_variable types store) F c.in-Some.first c.in-Some.ensures.some.1) in
    let r = spine_args (signature types) G y ts typed.1 (subst (λ u. HasType (signature types) G u typed.1) left_is typed.2.1) in
    let z = cell_variable types store c.in-Some-flexible_cell-2.second in
    let right_is : tree c.args.right ≡ spine (variable z) us = c.requires.right_is ∙ ap (λ h. spine (read h) us) c.in-Some-flexible_cell-2.ensures.some.0 in
    let held_z = contains_holds ys z (Contains-map (cell_variable types store) F c.in-Some-flexible_cell-2.second c.in-Some-flexible_cell-2.ensures.some.1) in
    let q = spine_args (signature types) G z us (kind r.0) (subst (λ C. HasType (signature types) G (spine (variable z) us) C) r.1 (subst (λ u. HasType (signature types) G u typed.1) right_is typed.3.1)) in
    (G, r.0, r.2, subst (λ C. TakeType (signature types) G us z.type C) (sym q.1) q.2)
