use Rattle.std.specs.Prelude.{◌≡◌, Ok, true, false, is_some}
use Rattle.std.proofs.Common.{lit<, ◌∷◌, ◌-◌, length, option_map, drop, take, map, refl, sym, ap, ◌∙◌, subst}
use Rattle.std.proofs.lemmas.Result.{err_from_is_err_and}
use Rattle.ab_norm.specs.ab_types.specs.Ids.{type_of}
use Rattle.ab_norm.specs.ab_types.proofs.Entries.{extended_twice}
use Rattle.ab_grammar.specs.Tree.{trees_of}
use Rattle.ab_syntax.specs.ab_expressions.specs.SyntaxTrees.{tree_of, binder_of}
use Rattle.ab_meaning.specs.ResolvedNames as names
use Rattle.ab_meaning.specs.ResolvedNames.{quantified}
use Rattle.ab_meaning.specs.Scopes.{is_pi, resolved, after, pi_over, with_binders, under, made_of_both, before_list, empty_list, context, items_before}
use Rattle.ab_inference.specs.Sketches.{erase}
use Rattle.ab_infer.specs.NameScopes.{names_in, scope_of}
use Rattle.ab_infer.specs.Rows.{Grew}
use Rattle.ab_infer.specs.WalkMoves.{judgement_head}
use Rattle.ab_infer.proofs.Cases.{same_place, pi_many, pi_whole, head_whole, abs_whole, join_whole, argument_fails, argument_given, meets_bound, between_bound, binder_made, bound_names, first_and_rest}
use Rattle.ab_infer.proofs.Grounds.{adds_none, adds_both, same_scope, written_later}
use Rattle.ab_syntax.specs.ab_expressions.proofs.tree.Parse.TheLaws.{the_size}
use denote.Param.Weighed.{most}
use Rattle.ab_infer.proofs.Depths.{list_is_less_deep, less_with_rank}
use Rattle.ab_infer.proofs.Growing.{grew_abs, grew_apply, grew_bind}
use Rattle.ab_infer.proofs.Judgements.{same_list, same_before, same_given, list_fails, items_fail, focused_whole, unfocused_whole, grew_same, no_application, no_judgement, grew_list, begins_with_list, begins_with_item, item_fails, item_put}
use Rattle.ab_infer.proofs.Resolving.{fails_on, after_fails, made_fails, first_fails, second_fails, all_fail, left_fails, right_fails, grew_join}
use Rattle.ab_infer.proofs.expression_walk.+walking.Goals as goal

pub walk_application-returns-then-arguments-ne1-clause-walked : goal.walk_application-returns-then-arguments-ne1-clause-walked
walk_application-returns-then-arguments-ne1-clause-walked t c = λ is_one.
    let j = c.in-Apply in
    let s = scope_of c.args.types.now c.args.store.now c.args.scope.now in
    let bs = names_in c.args.row.now.bound.items in
    c.unknown_word.ensures (resolved s bs (tree_of c.args.parse.now))
    (pi_many s bs c.args.parse.now j.head j.arguments j.field-2 c.deref.result.now c.as_slice-arguments.result.now j.is c.deref.ensures c.as_slice-arguments.ensures (sym c.is_pi.ensures ∙ c.if-is_pi.true) c.if-arguments-ne1.true)

pub walk_application-returns-in_err-walk-in-Apply-clause-walked : goal.walk_application-returns-in_err-walk-in-Apply-clause-walked
walk_application-returns-in_err-walk-in-Apply-clause-walked t c = λ is_one.
    let p = err_from_is_err_and c.from_residual.result c.from_residual.ensures.1 in
    let j = c.in-Apply in
    let s = scope_of c.args.types.now c.args.store.now c.args.scope.now in
    let bs = names_in c.args.row.now.bound.items in
    let v = c.index-arguments-0.result in
    let whole = pi_whole s bs c.args.parse.now j.head j.arguments j.field-2 c.deref.result.now c.as_slice-arguments.result.now j.is c.deref.ensures c.as_slice-arguments.ensures v (sym c.is_pi.ensures ∙ c.if-is_pi.true) c.if-arguments-ne1.false c.index-arguments-0.is in
    rw (p.1, p.2) (fails_on (resolved s bs (tree_of v)) (resolved s bs (tree_of c.args.parse.now)) c.in_err-walk-in-Apply.field-0.0 (λ x h. whole ∙ after_fails pi_over (resolved s bs (tree_of v)) x h) c.in_err-walk-in-Apply.ensures.walked)

pub walk_application-returns-in_err-turn_to_pi-in-Apply-clause-walked : goal.walk_application-returns-in_err-turn_to_pi-in-Apply-clause-walked
walk_application-returns-in_err-turn_to_pi-in-Apply-clause-walked t c = λ is_one.
    let p = err_from_is_err_and c.from_residual-in_err-turn_to_pi-in-Apply.result c.from_residual-in_err-turn_to_pi-in-Apply.ensures.1 in
    let j = c.in-Apply in
    let s = scope_of c.args.types.now c.args.store.now c.args.scope.now in
    let bs = names_in c.args.row.now.bound.items in
    let v = c.index-arguments-0.result in
    let whole = pi_whole s bs c.args.parse.now j.head j.arguments j.field-2 c.deref.result.now c.as_slice-arguments.result.now j.is c.deref.ensures c.as_slice-arguments.ensures v (sym c.is_pi.ensures ∙ c.if-is_pi.true) c.if-arguments-ne1.false c.index-arguments-0.is in
    rw (p.1, p.2) (fails_on (after pi_over (resolved s bs (tree_of v))) (resolved s bs (tree_of c.args.parse.now)) c.in_err-turn_to_pi-in-Apply.field-0.0 (λ x h. whole ∙ h)
    (c.in_err-turn_to_pi-in-Apply.ensures c.walk.new.types c.args.store.now c.args.row.now (resolved s bs (tree_of v)) c.in_ok-walk-in-Apply.ensures.walked))

pub walk_application-returns-then-is_pi-clause-walked : goal.walk_application-returns-then-is_pi-clause-walked
walk_application-returns-then-is_pi-clause-walked t c = λ is_one.
    let j = c.in-Apply in
    let s = scope_of c.args.types.now c.args.store.now c.args.scope.now in
    let bs = names_in c.args.row.now.bound.items in
    let v = c.index-arguments-0.result in
    let whole = pi_whole s bs c.args.parse.now j.head j.arguments j.field-2 c.deref.result.now c.as_slice-arguments.result.now j.is c.deref.ensures c.as_slice-arguments.ensures v (sym c.is_pi.ensures ∙ c.if-is_pi.true) c.if-arguments-ne1.false c.index-arguments-0.is in
    subst (Grew c.walk.new.types c.args.store.now c.args.row.now c.turn_to_pi.new.row) (sym whole)
    (c.in_ok-turn_to_pi-in-Apply.ensures c.walk.new.types c.args.store.now c.args.row.now (resolved s bs (tree_of v)) c.in_ok-walk-in-Apply.ensures.walked)

pub walk_application-returns-in_err-walk-in-Apply-2-clause-walked : goal.walk_application-returns-in_err-walk-in-Apply-2-clause-walked
walk_application-returns-in_err-walk-in-Apply-2-clause-walked t c = λ is_one.
    let p = err_from_is_err_and c.from_residual-in_err-walk-in-Apply-2.result c.from_residual-in_err-walk-in-Apply-2.ensures.1 in
    let j = c.in-Apply in
    let s = scope_of c.args.types.now c.args.store.now c.args.scope.now in
    let bs = names_in c.args.row.now.bound.items in
    let g = c.deref-in-Apply.result.now in
    let vs = c.as_slice-arguments.result.now in
    let whole = head_whole s bs c.args.parse.now j.head j.arguments j.field-2 g vs j.is c.deref-in-Apply.ensures c.as_slice-arguments.ensures (ap (λ h. is_pi (tree_of h)) (c.deref-in-Apply.ensures ∙ sym c.deref.ensures) ∙ (sym c.is_pi.ensures ∙ c.if-is_pi.false)) in
    rw (p.1, p.2) (fails_on (resolved s bs (tree_of g)) (resolved s bs (tree_of c.args.parse.now)) c.in_err-walk-in-Apply-2.field-0.0 (λ x h. whole ∙ all_fail s bs (resolved s bs (tree_of g)) x (trees_of (map tree_of vs)) h) c.in_err-walk-in-Apply-2.ensures.walked)

pub walk_application-loop-argument-init : goal.walk_application-loop-argument-init
walk_application-loop-argument-init t c =
    let j = c.in-Apply in
    let s = scope_of c.args.types.now c.args.store.now c.args.scope.now in
    let bs = names_in c.args.row.now.bound.items in
    let g = c.deref-in-Apply.result.now in
    let vs = c.as_slice-arguments.result.now in
    let whole = head_whole s bs c.args.parse.now j.head j.arguments j.field-2 g vs j.is c.deref-in-Apply.ensures c.as_slice-arguments.ensures (ap (λ h. is_pi (tree_of h)) (c.deref-in-Apply.ensures ∙ sym c.deref.ensures) ∙ (sym c.is_pi.ensures ∙ c.if-is_pi.false)) in
    record {
      ground = c.in_ok-walk-in-Apply-2.ensures.ground;
      adds = c.in_ok-walk-in-Apply-2.ensures.adds;
      applied = record { found = resolved s bs (tree_of g); grew = c.in_ok-walk-in-Apply-2.ensures.walked; rest = sym whole };
    }

pub walk_application-returns-in_err-walk-in-Apply-3-clause-walked : goal.walk_application-returns-in_err-walk-in-Apply-3-clause-walked
walk_application-returns-in_err-walk-in-Apply-3-clause-walked t c = λ is_one.
    let p = err_from_is_err_and c.from_residual-in_err-walk-in-Apply-3.result c.from_residual-in_err-walk-in-Apply-3.ensures.1 in
    let s = scope_of c.args.types.now c.args.store.now c.args.scope.now in
    let bs = names_in c.args.row.now.bound.items in
    let l = c.loop-argument in
    let v = c.argument-item.result in
    let vs = c.as_slice-arguments.result.now in
    let whole = resolved s bs (tree_of c.args.parse.now) in
    let same = same_place c.args.types.now l.types c.args.store.now c.args.scope.now c.args.row.now.bound.items l.row.bound.items (tree_of v) l.invariant.adds c.requires.ground.holds_scope l.invariant.applied.grew.bound in
    rw (p.1, p.2) (fails_on (resolved (scope_of l.types c.args.store.now c.args.scope.now) (names_in l.row.bound.items) (tree_of v)) whole c.in_err-walk-in-Apply-3.field-0.0
    (λ x h. argument_fails s bs l.types c.args.store.now c.args.row.now l.row whole vs l.argument-index v l.invariant.applied c.loop-argument-test.true c.argument-item.is x (sym same ∙ h)) c.in_err-walk-in-Apply-3.ensures.walked)

pub walk_application-loop-argument-preserved : goal.walk_application-loop-argument-preserved
walk_application-loop-argument-preserved t c =
    let s = scope_of c.args.types.now c.args.store.now c.args.scope.now in
    let bs = names_in c.args.row.now.bound.items in
    let l = c.loop-argument in
    let v = c.argument-item.result in
    let vs = c.as_slice-arguments.result.now in
    let whole = resolved s bs (tree_of c.args.parse.now) in
    let same = same_place c.args.types.now l.types c.args.store.now c.args.scope.now c.args.row.now.bound.items l.row.bound.items (tree_of v) l.invariant.adds c.requires.ground.holds_scope l.invariant.applied.grew.bound in
    let e = c.in_ok-walk-in-Apply-3.ensures in
    let new = c.walk-in-loop-argument.new in
    record {
      ground = e.ground;
      adds = adds_both c.args.types.now l.types new.types l.invariant.adds e.adds;
      applied = argument_given s bs l.types c.args.store.now c.args.row.now l.row whole vs l.argument-index v l.invariant.applied c.loop-argument-test.true c.argument-item.is new.types new.row c.put.new.self e.adds.kept
          (subst (Grew new.types c.args.store.now l.row new.row) same e.walked) c.in_ok-put-in-Apply.ensures;
    }

pub walk-returns-in_err-walk-in-Abs-clause-walked : goal.walk-returns-in_err-walk-in-Abs-clause-walked
walk-returns-in_err-walk-in-Abs-clause-walked t c =
    let p = err_from_is_err_and c.from_residual-in_err-walk-in-Abs.result c.from_residual-in_err-walk-in-Abs.ensures.1 in
    let j = c.in-Abs in
    let s = scope_of c.args.types.now c.args.store.now c.args.scope.now in
    let bs = names_in c.args.row.now.bound.items in
    let e = tree_of c.deref.result.now in
    let whole = abs_whole s bs c.args.parse.now j.name j.body j.place c.deref.result.now j.is c.deref.ensures in
    let inner = ap (λ xs. resolved s xs e) (bound_names c.args.row.now c.bind_name.new.row j.name j.place c.in_ok-bind_name-in-Abs.field-0 c.in_ok-bind_name-in-Abs.ensures) in
    rw (p.1, p.2) (fails_on (resolved s (names_in c.bind_name.new.row.bound.items) e) (resolved s bs (tree_of c.args.parse.now)) c.in_err-walk-in-Abs.field-0.0
    (λ x h. whole ∙ made_fails (names.abs j.name j.place) (resolved s (j.name ∷ bs) e) x (sym inner ∙ h)) c.in_err-walk-in-Abs.ensures.walked)

pub walk-returns-in_ok-abstract_name-in-Abs-clause-walked : goal.walk-returns-in_ok-abstract_name-in-Abs-clause-walked
walk-returns-in_ok-abstract_name-in-Abs-clause-walked t c =
    let j = c.in-Abs in
    let s = scope_of c.args.types.now c.args.store.now c.args.scope.now in
    let bs = names_in c.args.row.now.bound.items in
    let e = tree_of c.deref.result.now in
    let n = c.in_ok-bind_name-in-Abs.field-0 in
    let h = c.in_ok-bind_name-in-Abs.ensures in
    let new = c.walk.new in
    let whole = abs_whole s bs c.args.parse.now j.name j.body j.place c.deref.result.now j.is c.deref.ensures in
    let inner = ap (λ xs. resolved s xs e) (bound_names c.args.row.now c.bind_name.new.row j.name j.place n h) in
    let body = subst (Grew new.types c.args.store.now c.bind_name.new.row new.row) inner c.in_ok-walk-in-Abs.ensures.walked in
    subst (Grew new.types c.args.store.now c.args.row.now c.abstract_name.new.row) (sym whole)
    (grew_abs c.args.store.now new.types c.args.row.now c.bind_name.new.row new.row c.abstract_name.new.row j.name j.place n (resolved s (j.name ∷ bs) e) _ h body
    (c.in_ok-abstract_name-in-Abs.ensures c.args.row.now.bound.items j.name n (body.bound ∙ h.bound)) refl)

pub walk-returns-in_err-walk-in-Join-clause-walked : goal.walk-returns-in_err-walk-in-Join-clause-walked
walk-returns-in_err-walk-in-Join-clause-walked t c =
    let p = err_from_is_err_and c.from_residual-in_err-walk-in-Join.result c.from_residual-in_err-walk-in-Join.ensures.1 in
    let j = c.in-Join in
    let T = c.args.types.now in
    let S = c.args.store.now in
    let s = scope_of T S c.args.scope.now in
    let bs = names_in c.args.row.now.bound.items in
    let a = c.deref-in-Join.result.now in
    let b = j.right.value in
    let r1 = c.meet_sign.new.row in
    let t1 = c.meet_sign.new.types in
    let whole = join_whole s bs c.args.parse.now j.sign j.left j.right j.place a b j.is c.deref-in-Join.ensures refl in
    let m = c.in_ok-equation-in-Join.ensures in
    let same = same_place T t1 S c.args.scope.now c.args.row.now.bound.items r1.bound.items (tree_of a) m.adds c.requires.ground.holds_scope (meets_bound t1 S c.args.row.now r1 j.sign c.in_ok-equation-in-Join.equation m.meets) in
    rw (p.1, p.2) (fails_on (resolved (scope_of t1 S c.args.scope.now) (names_in r1.bound.items) (tree_of a)) (resolved s bs (tree_of c.args.parse.now)) c.in_err-walk-in-Join.field-0.0
    (λ x h. whole ∙ left_fails s j.sign (resolved s bs (tree_of a)) (resolved s bs (tree_of b)) x (sym same ∙ h)) c.in_err-walk-in-Join.ensures.walked)

pub walk-returns-in_err-walk-in-Join-2-clause-walked : goal.walk-returns-in_err-walk-in-Join-2-clause-walked
walk-returns-in_err-walk-in-Join-2-clause-walked t c =
    let p = err_from_is_err_and c.from_residual-in_err-walk-in-Join-2.result c.from_residual-in_err-walk-in-Join-2.ensures.1 in
    let j = c.in-Join in
    let T = c.args.types.now in
    let S = c.args.store.now in
    let r0 = c.args.row.now in
    let s = scope_of T S c.args.scope.now in
    let bs = names_in r0.bound.items in
    let a = c.deref-in-Join.result.now in
    let b = c.deref-in-Join-2.result.now in
    let node = c.in_ok-equation-in-Join.equation in
    let r1 = c.meet_sign.new.row in
    let t1 = c.meet_sign.new.types in
    let r2 = c.walk-in-Join.new.row in
    let t2 = c.walk-in-Join.new.types in
    let r3 = c.put_between.new.row in
    let whole = join_whole s bs c.args.parse.now j.sign j.left j.right j.place a b j.is c.deref-in-Join.ensures c.deref-in-Join-2.ensures in
    let m = c.in_ok-equation-in-Join.ensures in
    let meets = meets_bound t1 S r0 r1 j.sign node m.meets in
    let same = same_place T t1 S c.args.scope.now r0.bound.items r1.bound.items (tree_of a) m.adds c.requires.ground.holds_scope meets in
    let left = subst (Grew t2 S r1 r2) same c.in_ok-walk-in-Join.ensures.walked in
    let other = same_place T t2 S c.args.scope.now r0.bound.items r3.bound.items (tree_of b) (adds_both T t1 t2 m.adds c.in_ok-walk-in-Join.ensures.adds) c.requires.ground.holds_scope
    (between_bound r2 r3 node c.in_ok-put_between-in-Join.ensures ∙ (left.bound ∙ meets)) in
    rw (p.1, p.2) (fails_on (resolved (scope_of t2 S c.args.scope.now) (names_in r3.bound.items) (tree_of b)) (resolved s bs (tree_of c.args.parse.now)) c.in_err-walk-in-Join-2.field-0.0
    (λ x h. whole ∙ right_fails s j.sign (resolved s bs (tree_of a)) (resolved s bs (tree_of b)) (erase left.sketch) x left.is (sym other ∙ h)) c.in_err-walk-in-Join-2.ensures.walked)

pub walk-returns-in_ok-put_behind-in-Join-clause-walked : goal.walk-returns-in_ok-put_behind-in-Join-clause-walked
walk-returns-in_ok-put_behind-in-Join-clause-walked t c =
    let j = c.in-Join in
    let T = c.args.types.now in
    let S = c.args.store.now in
    let r0 = c.args.row.now in
    let s = scope_of T S c.args.scope.now in
    let bs = names_in r0.bound.items in
    let a = c.deref-in-Join.result.now in
    let b = c.deref-in-Join-2.result.now in
    let node = c.in_ok-equation-in-Join.equation in
    let r1 = c.meet_sign.new.row in
    let t1 = c.meet_sign.new.types in
    let r2 = c.walk-in-Join.new.row in
    let t2 = c.walk-in-Join.new.types in
    let r3 = c.put_between.new.row in
    let r4 = c.walk-in-Join-2.new.row in
    let t3 = c.walk-in-Join-2.new.types in
    let whole = join_whole s bs c.args.parse.now j.sign j.left j.right j.place a b j.is c.deref-in-Join.ensures c.deref-in-Join-2.ensures in
    let m = c.in_ok-equation-in-Join.ensures in
    let meets = meets_bound t1 S r0 r1 j.sign node m.meets in
    let same = same_place T t1 S c.args.scope.now r0.bound.items r1.bound.items (tree_of a) m.adds c.requires.ground.holds_scope meets in
    let left = subst (Grew t2 S r1 r2) same c.in_ok-walk-in-Join.ensures.walked in
    let other = same_place T t2 S c.args.scope.now r0.bound.items r3.bound.items (tree_of b) (adds_both T t1 t2 m.adds c.in_ok-walk-in-Join.ensures.adds) c.requires.ground.holds_scope
    (between_bound r2 r3 node c.in_ok-put_between-in-Join.ensures ∙ (left.bound ∙ meets)) in
    let right = subst (Grew t3 S r3 r4) other c.in_ok-walk-in-Join-2.ensures.walked in
    subst (Grew t3 S r0 c.put_behind.new.row) (sym whole)
    (grew_join S t1 t2 t3 j.sign node s r0 r1 r2 r3 r4 c.put_behind.new.row (resolved s bs (tree_of a)) (resolved s bs (tree_of b)) m.ground.typed
    c.in_ok-walk-in-Join.ensures.adds.kept c.in_ok-walk-in-Join-2.ensures.adds.kept m.meets left c.in_ok-put_between-in-Join.ensures right c.in_ok-put_behind-in-Join.ensures)

pub walk_binders-returns-in_err-walk_binders-in-len1-up-clause-walked : goal.walk_binders-returns-in_err-walk_binders-in-len1-up-clause-walked
walk_binders-returns-in_err-walk_binders-in-len1-up-clause-walked t c = λ q is.
    let p = err_from_is_err_and c.from_residual-in_err-walk_binders-in-len1-up.result c.from_residual-in_err-walk_binders-in-len1-up.ensures.1 in
    let T = c.args.types.now in
    let S = c.args.store.now in
    let t1 = c.read_binder_type.new.types in
    let r0 = c.args.row.now in
    let r1 = c.bind_name.new.row in
    let s = scope_of T S c.args.scope.now in
    let s1 = scope_of t1 S c.args.scope.now in
    let bs = names_in r0.bound.items in
    let e = tree_of c.args.body.now in
    let d = c.first-item.result in
    let all = c.args.binders.now in
    let rest = take (length all - 1) (drop 1 all) in
    let w = c.in_ok-written-in-len1-up.ensures in
    let inner = ap (λ x. with_binders x.kinds q (map binder_of rest) (resolved x (under (map binder_of rest) (names_in r1.bound.items)) e)) (same_scope T t1 w.adds S c.args.scope.now c.requires.ground.holds_scope)
    ∙ ap (λ xs. with_binders s.kinds q (map binder_of rest) (resolved s (under (map binder_of rest) xs) e)) (bound_names r0 r1 d.name d.place c.in_ok-bind_name-in-len1-up.field-0 c.in_ok-bind_name-in-len1-up.ensures) in
    let found = with_binders s.kinds q (map binder_of rest) (resolved s (under (map binder_of rest) (d.name ∷ bs)) e) in
    let W = option_map (type_of t1) c.in_ok-written-in-len1-up.written in
    let whole = binder_made s q e bs all d rest (first_and_rest all d c.in-len1-up.len_at_least c.first-item.is) W w.read.is in
    rw (p.1, p.2) (fails_on (with_binders s1.kinds q (map binder_of rest) (resolved s1 (under (map binder_of rest) (names_in r1.bound.items)) e)) (with_binders s.kinds q (map binder_of all) (resolved s (under (map binder_of all) bs) e))
    c.in_err-walk_binders-in-len1-up.field-0.0 (λ x h. whole ∙ made_fails (names.bind (quantified q) d.name d.place W) found x (sym inner ∙ h)) (c.in_err-walk_binders-in-len1-up.ensures.walked q is))

pub walk_binders-returns-in_ok-quantify_name-in-len1-up-clause-walked : goal.walk_binders-returns-in_ok-quantify_name-in-len1-up-clause-walked
walk_binders-returns-in_ok-quantify_name-in-len1-up-clause-walked t c = λ q is.
    let T = c.args.types.now in
    let S = c.args.store.now in
    let t1 = c.read_binder_type.new.types in
    let t2 = c.walk_binders.new.types in
    let r0 = c.args.row.now in
    let r1 = c.bind_name.new.row in
    let r2 = c.walk_binders.new.row in
    let r3 = c.quantify_name.new.row in
    let s = scope_of T S c.args.scope.now in
    let bs = names_in r0.bound.items in
    let e = tree_of c.args.body.now in
    let d = c.first-item.result in
    let all = c.args.binders.now in
    let rest = take (length all - 1) (drop 1 all) in
    let id = c.in_ok-written-in-len1-up.written in
    let w = c.in_ok-written-in-len1-up.ensures in
    let n = c.in_ok-bind_name-in-len1-up.field-0 in
    let h = c.in_ok-bind_name-in-len1-up.ensures in
    let inner = ap (λ x. with_binders x.kinds q (map binder_of rest) (resolved x (under (map binder_of rest) (names_in r1.bound.items)) e)) (same_scope T t1 w.adds S c.args.scope.now c.requires.ground.holds_scope)
    ∙ ap (λ xs. with_binders s.kinds q (map binder_of rest) (resolved s (under (map binder_of rest) xs) e)) (bound_names r0 r1 d.name d.place n h) in
    let found = with_binders s.kinds q (map binder_of rest) (resolved s (under (map binder_of rest) (d.name ∷ bs)) e) in
    let W = option_map (type_of t1) id in
    let whole = binder_made s q e bs all d rest (first_and_rest all d c.in-len1-up.len_at_least c.first-item.is) W w.read.is in
    let body = subst (Grew t2 S r1 r2) inner (c.in_ok-walk_binders-in-len1-up.ensures.walked q is) in
    subst (Grew t2 S r0 r3) (sym whole)
    (grew_bind S t2 r0 r1 r2 r3 d.name d.place n found _ h body (c.in_ok-quantify_name-in-len1-up.ensures r0.bound.items d.name n (body.bound ∙ h.bound)) c.args.binds (quantified q) id W refl is
    (λ later e. written_later t1 later (extended_twice t1 t2 later c.in_ok-walk_binders-in-len1-up.ensures.adds.kept e) id w.read.held))

pub walk_binders-returns-in_err-written-in-len1-up-clause-ground : goal.walk_binders-returns-in_err-written-in-len1-up-clause-ground
walk_binders-returns-in_err-written-in-len1-up-clause-ground t c = c.read_binder_type.ensures.ground c.args.store.now c.args.formulas c.args.scope.now c.requires.ground

pub walk_binders-returns-in_err-bind_name-in-len1-up-clause-ground : goal.walk_binders-returns-in_err-bind_name-in-len1-up-clause-ground
walk_binders-returns-in_err-bind_name-in-len1-up-clause-ground t c = c.read_binder_type.ensures.ground c.args.store.now c.args.formulas c.args.scope.now c.requires.ground

pub walk_judgement-returns-in_err-walk_context-in-Judge-clause-walked : goal.walk_judgement-returns-in_err-walk_context-in-Judge-clause-walked
walk_judgement-returns-in_err-walk_context-in-Judge-clause-walked t c = λ is_one.
    let p = err_from_is_err_and c.from_residual-in_err-walk_context-in-Judge.result c.from_residual-in_err-walk_context-in-Judge.ensures.1 in
    let j = c.in-Judge in
    let T = c.args.types.now in
    let S = c.args.store.now in
    let r0 = c.args.row.now in
    let r1 = c.put_judgement.new.row in
    let t1 = c.put_judgement.new.types in
    let s = scope_of T S c.args.scope.now in
    let bs = names_in r0.bound.items in
    let vs = c.as_slice.result.now in
    let head = c.in_ok-put_judgement-in-Judge.ensures.head S c.requires.ground.typed in
    let same = same_list T t1 S c.args.scope.now r0.bound.items r1.bound.items c.put_judgement.ensures.adds c.requires.ground.holds_scope head.bound (trees_of (map tree_of vs)) in
    rw (p.1, p.2) (fails_on (context (scope_of t1 S c.args.scope.now) (names_in r1.bound.items) (trees_of (map tree_of vs))) (resolved s bs (tree_of c.args.parse.now)) c.in_err-walk_context-in-Judge.field-0.0
    (λ x h. list_fails s bs c.args.parse.now j.context j.focus j.goal j.field-3 vs j.goal.value j.is c.as_slice.ensures refl x (sym same ∙ h)) c.in_err-walk_context-in-Judge.ensures.walked)

pub walk_argument-returns-in_err-walk-clause-walked : goal.walk_argument-returns-in_err-walk-clause-walked
walk_argument-returns-in_err-walk-clause-walked t c = λ first f grew.
    let p = err_from_is_err_and c.from_residual.result c.from_residual.ensures.1 in
    let g = resolved (scope_of c.args.types.now c.args.store.now c.args.scope.now) (names_in c.args.row.now.bound.items) (tree_of c.args.parse.now) in
    rw (p.1, p.2) (fails_on g (made_of_both names.apply f g) c.in_err-walk.field-0.0 (λ x h. second_fails names.apply f g (erase grew.sketch) x grew.is h) c.in_err-walk.ensures.walked)

pub walk_argument-returns-clause-walked : goal.walk_argument-returns-clause-walked
walk_argument-returns-clause-walked t c = λ first f grew.
    let e = c.in_ok-walk.ensures in
    grew_apply c.args.store.now c.args.types.now c.walk.new.types first c.args.row.now c.walk.new.row c.put.new.self f
    (resolved (scope_of c.args.types.now c.args.store.now c.args.scope.now) (names_in c.args.row.now.bound.items) (tree_of c.args.parse.now)) e.adds.kept grew e.walked c.in_ok-put.ensures

pub walk_items-returns-in_err-walk_argument-clause-walked : goal.walk_items-returns-in_err-walk_argument-clause-walked
walk_items-returns-in_err-walk_argument-clause-walked t c = λ first f grew.
    let p = err_from_is_err_and c.from_residual-in_err-walk_argument.result c.from_residual-in_err-walk_argument.ensures.1 in
    let T = c.args.types.now in
    let S = c.args.store.now in
    let s = scope_of T S c.args.scope.now in
    let r0 = c.args.row.now in
    let bs = names_in r0.bound.items in
    let l = c.loop-item in
    let v = c.item-item.result in
    let vs = c.args.items.now in
    let a = l.invariant.listed first f grew in
    let r1 = c.put_constant.new.row in
    let cons = c.in_ok-put_constant.ensures S _ l.invariant.ground.typed refl in
    let same = same_given T l.types S c.args.scope.now r0.bound.items r1.bound.items l.invariant.adds c.requires.ground.holds_scope (cons.bound ∙ (a.grew.bound ∙ sym grew.bound)) (Ok before_list) (tree_of v) in
    let whole = items_before s bs f (trees_of (map tree_of vs)) in
    rw (p.1, p.2) (fails_on (made_of_both names.apply (Ok before_list) (resolved (scope_of l.types S c.args.scope.now) (names_in r1.bound.items) (tree_of v))) whole c.in_err-walk_argument.field-0.0
    (λ x h. item_fails s bs l.types S first l.row whole vs l.item-index v a c.loop-item-test.true c.item-item.is x (sym same ∙ h)) (c.in_err-walk_argument.ensures.walked l.row (Ok before_list) cons))

pub walk_items-loop-item-preserved : goal.walk_items-loop-item-preserved
walk_items-loop-item-preserved t c =
    let T = c.args.types.now in
    let S = c.args.store.now in
    let s = scope_of T S c.args.scope.now in
    let r0 = c.args.row.now in
    let bs = names_in r0.bound.items in
    let l = c.loop-item in
    let v = c.item-item.result in
    let vs = c.args.items.now in
    let r1 = c.put_constant.new.row in
    let new = c.walk_argument.new in
    let e = c.in_ok-walk_argument.ensures in
    let cons = c.in_ok-put_constant.ensures S _ l.invariant.ground.typed refl in
    record {
      ground = e.ground;
      adds = adds_both T l.types new.types l.invariant.adds e.adds;
      listed = λ first f grew.
          let a = l.invariant.listed first f grew in
          let same = same_given T l.types S c.args.scope.now r0.bound.items r1.bound.items l.invariant.adds c.requires.ground.holds_scope (cons.bound ∙ (a.grew.bound ∙ sym grew.bound)) (Ok before_list) (tree_of v) in
          item_put s bs l.types S first l.row (items_before s bs f (trees_of (map tree_of vs))) vs l.item-index v a c.loop-item-test.true c.item-item.is new.types new.row c.put.new.self e.adds.kept
          (subst (Grew new.types S l.row new.row) same (e.walked l.row (Ok before_list) cons)) c.in_ok-put.ensures;
    }

pub walk_context-returns-in_err-walk-in-len1-up-clause-walked : goal.walk_context-returns-in_err-walk-in-len1-up-clause-walked
walk_context-returns-in_err-walk-in-len1-up-clause-walked t c =
    let p = err_from_is_err_and c.from_residual-in_err-walk-in-len1-up.result c.from_residual-in_err-walk-in-len1-up.ensures.1 in
    let s = scope_of c.args.types.now c.args.store.now c.args.scope.now in
    let bs = names_in c.args.row.now.bound.items in
    let d = c.first-item.result in
    let all = c.args.items.now in
    let rest = take (length all - 1) (drop 1 all) in
    let found = resolved s bs (tree_of d) in
    let whole = ap (λ ws. context s bs (trees_of (map tree_of ws))) (first_and_rest all d c.in-len1-up.len_at_least c.first-item.is)
    ∙ begins_with_list s bs (tree_of d) (trees_of (map tree_of rest)) (sym c.is_list.ensures ∙ c.if-is_list.true) in
    rw (p.1, p.2) (fails_on found (context s bs (trees_of (map tree_of all))) c.in_err-walk-in-len1-up.field-0.0
    (λ x h. whole ∙ items_fail s bs found x (trees_of (map tree_of rest)) h) c.in_err-walk-in-len1-up.ensures.walked)

pub walk_context-returns-in_err-walk_items-in-len1-up-clause-walked : goal.walk_context-returns-in_err-walk_items-in-len1-up-clause-walked
walk_context-returns-in_err-walk_items-in-len1-up-clause-walked t c =
    let p = err_from_is_err_and c.from_residual-in_err-walk_items-in-len1-up.result c.from_residual-in_err-walk_items-in-len1-up.ensures.1 in
    let T = c.args.types.now in
    let S = c.args.store.now in
    let r0 = c.args.row.now in
    let r1 = c.walk.new.row in
    let t1 = c.walk.new.types in
    let s = scope_of T S c.args.scope.now in
    let bs = names_in r0.bound.items in
    let d = c.first-item.result in
    let all = c.args.items.now in
    let rest = take (length all - 1) (drop 1 all) in
    let vs = trees_of (map tree_of rest) in
    let found = resolved s bs (tree_of d) in
    let g = c.in_ok-walk-in-len1-up.ensures in
    let same = same_before T t1 S c.args.scope.now r0.bound.items r1.bound.items g.adds c.requires.ground.holds_scope g.walked.bound found vs in
    let whole = ap (λ ws. context s bs (trees_of (map tree_of ws))) (first_and_rest all d c.in-len1-up.len_at_least c.first-item.is)
    ∙ begins_with_list s bs (tree_of d) vs (sym c.is_list.ensures ∙ c.if-is_list.true) in
    rw (p.1, p.2) (fails_on (items_before (scope_of t1 S c.args.scope.now) (names_in r1.bound.items) found vs) (context s bs (trees_of (map tree_of all))) c.in_err-walk_items-in-len1-up.field-0.0
    (λ x h. whole ∙ (sym same ∙ h)) (c.in_err-walk_items-in-len1-up.ensures.walked r0 found g.walked))

pub walk_context-returns-then-is_list-clause-walked : goal.walk_context-returns-then-is_list-clause-walked
walk_context-returns-then-is_list-clause-walked t c =
    let T = c.args.types.now in
    let S = c.args.store.now in
    let r0 = c.args.row.now in
    let r1 = c.walk.new.row in
    let t1 = c.walk.new.types in
    let s = scope_of T S c.args.scope.now in
    let bs = names_in r0.bound.items in
    let d = c.first-item.result in
    let all = c.args.items.now in
    let rest = take (length all - 1) (drop 1 all) in
    let vs = trees_of (map tree_of rest) in
    let found = resolved s bs (tree_of d) in
    let g = c.in_ok-walk-in-len1-up.ensures in
    let new = c.walk_items.new in
    let same = same_before T t1 S c.args.scope.now r0.bound.items r1.bound.items g.adds c.requires.ground.holds_scope g.walked.bound found vs in
    let whole = ap (λ ws. context s bs (trees_of (map tree_of ws))) (first_and_rest all d c.in-len1-up.len_at_least c.first-item.is)
    ∙ begins_with_list s bs (tree_of d) vs (sym c.is_list.ensures ∙ c.if-is_list.true) in
    subst (Grew new.types S r0 new.row) (same ∙ sym whole) (c.in_ok-walk_items-in-len1-up.ensures.walked r0 found g.walked)

pub walk_items-put_constant-requires-clause-first : goal.walk_items-put_constant-requires-clause-first
walk_items-put_constant-requires-clause-first t c = (1, lit< tt, refl)

pub walk_context-returns-in_err-walk_items-in-len1-up-2-clause-walked : goal.walk_context-returns-in_err-walk_items-in-len1-up-2-clause-walked
walk_context-returns-in_err-walk_items-in-len1-up-2-clause-walked t c =
    let p = err_from_is_err_and c.from_residual-in_err-walk_items-in-len1-up-2.result c.from_residual-in_err-walk_items-in-len1-up-2.ensures.1 in
    let T = c.args.types.now in
    let S = c.args.store.now in
    let r0 = c.args.row.now in
    let s = scope_of T S c.args.scope.now in
    let bs = names_in r0.bound.items in
    let d = c.first-item.result in
    let all = c.args.items.now in
    let rest = take (length all - 1) (drop 1 all) in
    let split = first_and_rest all d c.in-len1-up.len_at_least c.first-item.is in
    let none = c.in_ok-put_constant-in-len1-up.ensures S _ c.requires.ground.typed refl in
    let same = same_before T T S c.args.scope.now r0.bound.items _ (adds_none T) c.requires.ground.holds_scope none.bound (Ok empty_list) (trees_of (map tree_of all)) in
    let whole = ap (λ ws. context s bs (trees_of (map tree_of ws))) split
    ∙ (begins_with_item s bs (tree_of d) (trees_of (map tree_of rest)) (sym c.is_list.ensures ∙ c.if-is_list.false) ∙ ap (λ ws. items_before s bs (Ok empty_list) (trees_of (map tree_of ws))) (sym split)) in
    rw (p.1, p.2) (fails_on _ (context s bs (trees_of (map tree_of all))) c.in_err-walk_items-in-len1-up-2.field-0.0
    (λ x h. whole ∙ (sym same ∙ h)) (c.in_err-walk_items-in-len1-up-2.ensures.walked r0 (Ok empty_list) none))

pub walk_context-returns-in_ok-walk_items-in-len1-up-2-clause-walked : goal.walk_context-returns-in_ok-walk_items-in-len1-up-2-clause-walked
walk_context-returns-in_ok-walk_items-in-len1-up-2-clause-walked t c =
    let T = c.args.types.now in
    let S = c.args.store.now in
    let r0 = c.args.row.now in
    let s = scope_of T S c.args.scope.now in
    let bs = names_in r0.bound.items in
    let d = c.first-item.result in
    let all = c.args.items.now in
    let rest = take (length all - 1) (drop 1 all) in
    let split = first_and_rest all d c.in-len1-up.len_at_least c.first-item.is in
    let none = c.in_ok-put_constant-in-len1-up.ensures S _ c.requires.ground.typed refl in
    let same = same_before T T S c.args.scope.now r0.bound.items _ (adds_none T) c.requires.ground.holds_scope none.bound (Ok empty_list) (trees_of (map tree_of all)) in
    let whole = ap (λ ws. context s bs (trees_of (map tree_of ws))) split
    ∙ (begins_with_item s bs (tree_of d) (trees_of (map tree_of rest)) (sym c.is_list.ensures ∙ c.if-is_list.false) ∙ ap (λ ws. items_before s bs (Ok empty_list) (trees_of (map tree_of ws))) (sym split)) in
    grew_same (same ∙ sym whole) (c.in_ok-walk_items-in-len1-up-2.ensures.walked r0 (Ok empty_list) none)

pub walk_judgement-returns-in_err-put_judgement-in-Judge-clause-ground : goal.walk_judgement-returns-in_err-put_judgement-in-Judge-clause-ground
walk_judgement-returns-in_err-put_judgement-in-Judge-clause-ground t c = c.put_judgement.ensures.ground c.args.store.now c.args.formulas c.args.scope.now c.requires.ground

pub walk_judgement-returns-in_err-walk_argument-in-Judge-clause-walked : goal.walk_judgement-returns-in_err-walk_argument-in-Judge-clause-walked
walk_judgement-returns-in_err-walk_argument-in-Judge-clause-walked t c = λ is_one.
    let p = err_from_is_err_and c.from_residual-in_err-walk_argument-in-Judge.result c.from_residual-in_err-walk_argument-in-Judge.ensures.1 in
    let j = c.in-Judge in
    let u = c.deref.result.now in
    let v = j.goal.value in
    let v_is : v ≡ j.goal.value = refl in
    let T = c.args.types.now in
    let S = c.args.store.now in
    let r0 = c.args.row.now in
    let s = scope_of T S c.args.scope.now in
    let bs = names_in r0.bound.items in
    let vs = c.as_slice.result.now in
    let t1 = c.put_judgement.new.types in
    let t2 = c.walk_context.new.types in
    let r1 = c.put_judgement.new.row in
    let r2 = c.walk_context.new.row in
    let r3 = c.put.new.self in
    let put = c.put_judgement.ensures in
    let list = context s bs (trees_of (map tree_of vs)) in
    let is : c.is_some.result ≡ true = c.is_some.ensures ∙ ap is_some c.in-Some.is in
    let head = subst (λ b. Grew t1 S r0 r1 (Ok (judgement_head b))) is (c.in_ok-put_judgement-in-Judge.ensures.head S c.requires.ground.typed) in
    let w = c.in_ok-walk_context-in-Judge.ensures in
    let given = grew_list T t1 t2 S c.args.scope.now r0 r1 r2 r3 (judgement_head true) (trees_of (map tree_of vs)) put.adds c.requires.ground.holds_scope w.adds.kept head w.walked c.in_ok-put-in-Judge.ensures in
    let adds = adds_both T t1 t2 put.adds w.adds in
    let f = made_of_both names.apply (Ok (judgement_head true)) list in
    let same = same_given T t2 S c.args.scope.now r0.bound.items r3.bound.items adds c.requires.ground.holds_scope given.bound f (tree_of u) in
    rw (p.1, p.2) (fails_on _ (resolved s bs (tree_of c.args.parse.now)) c.in_err-walk_argument-in-Judge.field-0.0
    (λ x h. focused_whole s bs c.args.parse.now j.context j.focus j.goal j.field-3 vs v j.is c.as_slice.ensures v_is c.in-Some.focus u c.in-Some.is c.deref.ensures ∙ first_fails names.apply (made_of_both names.apply f (resolved s bs (tree_of u))) (resolved s bs (tree_of v)) x (sym same ∙ h)) (c.in_err-walk_argument-in-Judge.ensures.walked r0 f given))

pub walk_judgement-returns-in_err-walk_argument-in-Judge-2-clause-walked : goal.walk_judgement-returns-in_err-walk_argument-in-Judge-2-clause-walked
walk_judgement-returns-in_err-walk_argument-in-Judge-2-clause-walked t c = λ is_one.
    let p = err_from_is_err_and c.from_residual-in_err-walk_argument-in-Judge-2.result c.from_residual-in_err-walk_argument-in-Judge-2.ensures.1 in
    let j = c.in-Judge in
    let u = c.deref.result.now in
    let v = c.deref-in-Some.result.now in
    let v_is = c.deref-in-Some.ensures in
    let T = c.args.types.now in
    let S = c.args.store.now in
    let r0 = c.args.row.now in
    let s = scope_of T S c.args.scope.now in
    let bs = names_in r0.bound.items in
    let vs = c.as_slice.result.now in
    let t1 = c.put_judgement.new.types in
    let t2 = c.walk_context.new.types in
    let r1 = c.put_judgement.new.row in
    let r2 = c.walk_context.new.row in
    let r3 = c.put.new.self in
    let put = c.put_judgement.ensures in
    let list = context s bs (trees_of (map tree_of vs)) in
    let is : c.is_some.result ≡ true = c.is_some.ensures ∙ ap is_some c.in-Some.is in
    let head = subst (λ b. Grew t1 S r0 r1 (Ok (judgement_head b))) is (c.in_ok-put_judgement-in-Judge.ensures.head S c.requires.ground.typed) in
    let w = c.in_ok-walk_context-in-Judge.ensures in
    let given = grew_list T t1 t2 S c.args.scope.now r0 r1 r2 r3 (judgement_head true) (trees_of (map tree_of vs)) put.adds c.requires.ground.holds_scope w.adds.kept head w.walked c.in_ok-put-in-Judge.ensures in
    let adds = adds_both T t1 t2 put.adds w.adds in
    let f = made_of_both names.apply (Ok (judgement_head true)) list in
    let same = same_given T t2 S c.args.scope.now r0.bound.items r3.bound.items adds c.requires.ground.holds_scope given.bound f (tree_of u) in
    let fed = c.in_ok-walk_argument-in-Judge.ensures in
    let both = grew_same same (fed.walked r0 f given) in
    let more = adds_both T t2 _ adds fed.adds in
    let h = made_of_both names.apply f (resolved s bs (tree_of u)) in
    let last = same_given T _ S c.args.scope.now r0.bound.items _ more c.requires.ground.holds_scope both.bound h (tree_of v) in
    rw (p.1, p.2) (fails_on _ (resolved s bs (tree_of c.args.parse.now)) c.in_err-walk_argument-in-Judge-2.field-0.0
    (λ x e. focused_whole s bs c.args.parse.now j.context j.focus j.goal j.field-3 vs v j.is c.as_slice.ensures v_is c.in-Some.focus u c.in-Some.is c.deref.ensures ∙ (sym last ∙ e)) (c.in_err-walk_argument-in-Judge-2.ensures.walked r0 h both))

pub walk_judgement-returns-in-Some-clause-walked : goal.walk_judgement-returns-in-Some-clause-walked
walk_judgement-returns-in-Some-clause-walked t c = λ is_one.
    let j = c.in-Judge in
    let u = c.deref.result.now in
    let v = c.deref-in-Some.result.now in
    let v_is = c.deref-in-Some.ensures in
    let T = c.args.types.now in
    let S = c.args.store.now in
    let r0 = c.args.row.now in
    let s = scope_of T S c.args.scope.now in
    let bs = names_in r0.bound.items in
    let vs = c.as_slice.result.now in
    let t1 = c.put_judgement.new.types in
    let t2 = c.walk_context.new.types in
    let r1 = c.put_judgement.new.row in
    let r2 = c.walk_context.new.row in
    let r3 = c.put.new.self in
    let put = c.put_judgement.ensures in
    let list = context s bs (trees_of (map tree_of vs)) in
    let is : c.is_some.result ≡ true = c.is_some.ensures ∙ ap is_some c.in-Some.is in
    let head = subst (λ b. Grew t1 S r0 r1 (Ok (judgement_head b))) is (c.in_ok-put_judgement-in-Judge.ensures.head S c.requires.ground.typed) in
    let w = c.in_ok-walk_context-in-Judge.ensures in
    let given = grew_list T t1 t2 S c.args.scope.now r0 r1 r2 r3 (judgement_head true) (trees_of (map tree_of vs)) put.adds c.requires.ground.holds_scope w.adds.kept head w.walked c.in_ok-put-in-Judge.ensures in
    let adds = adds_both T t1 t2 put.adds w.adds in
    let f = made_of_both names.apply (Ok (judgement_head true)) list in
    let same = same_given T t2 S c.args.scope.now r0.bound.items r3.bound.items adds c.requires.ground.holds_scope given.bound f (tree_of u) in
    let fed = c.in_ok-walk_argument-in-Judge.ensures in
    let both = grew_same same (fed.walked r0 f given) in
    let more = adds_both T t2 _ adds fed.adds in
    let h = made_of_both names.apply f (resolved s bs (tree_of u)) in
    let last = same_given T _ S c.args.scope.now r0.bound.items _ more c.requires.ground.holds_scope both.bound h (tree_of v) in
    grew_same (last ∙ sym (focused_whole s bs c.args.parse.now j.context j.focus j.goal j.field-3 vs v j.is c.as_slice.ensures v_is c.in-Some.focus u c.in-Some.is c.deref.ensures)) (c.in_ok-walk_argument-in-Judge-2.ensures.walked r0 h both)

pub walk_judgement-returns-in_err-walk_argument-in-Judge-3-clause-walked : goal.walk_judgement-returns-in_err-walk_argument-in-Judge-3-clause-walked
walk_judgement-returns-in_err-walk_argument-in-Judge-3-clause-walked t c = λ is_one.
    let p = err_from_is_err_and c.from_residual-in_err-walk_argument-in-Judge-3.result c.from_residual-in_err-walk_argument-in-Judge-3.ensures.1 in
    let j = c.in-Judge in
    let v = c.deref-in-Judge.result.now in
    let v_is = c.deref-in-Judge.ensures in
    let T = c.args.types.now in
    let S = c.args.store.now in
    let r0 = c.args.row.now in
    let s = scope_of T S c.args.scope.now in
    let bs = names_in r0.bound.items in
    let vs = c.as_slice.result.now in
    let t1 = c.put_judgement.new.types in
    let t2 = c.walk_context.new.types in
    let r1 = c.put_judgement.new.row in
    let r2 = c.walk_context.new.row in
    let r3 = c.put.new.self in
    let put = c.put_judgement.ensures in
    let list = context s bs (trees_of (map tree_of vs)) in
    let is : c.is_some.result ≡ false = c.is_some.ensures ∙ ap is_some c.in_default-focus.is in
    let head = subst (λ b. Grew t1 S r0 r1 (Ok (judgement_head b))) is (c.in_ok-put_judgement-in-Judge.ensures.head S c.requires.ground.typed) in
    let w = c.in_ok-walk_context-in-Judge.ensures in
    let given = grew_list T t1 t2 S c.args.scope.now r0 r1 r2 r3 (judgement_head false) (trees_of (map tree_of vs)) put.adds c.requires.ground.holds_scope w.adds.kept head w.walked c.in_ok-put-in-Judge.ensures in
    let adds = adds_both T t1 t2 put.adds w.adds in
    let f = made_of_both names.apply (Ok (judgement_head false)) list in
    let same = same_given T t2 S c.args.scope.now r0.bound.items r3.bound.items adds c.requires.ground.holds_scope given.bound f (tree_of v) in
    rw (p.1, p.2) (fails_on _ (resolved s bs (tree_of c.args.parse.now)) c.in_err-walk_argument-in-Judge-3.field-0.0
    (λ x h. unfocused_whole s bs c.args.parse.now j.context j.focus j.goal j.field-3 vs v j.is c.as_slice.ensures v_is c.in_default-focus.is ∙ (sym same ∙ h)) (c.in_err-walk_argument-in-Judge-3.ensures.walked r0 f given))

pub walk_judgement-returns-in_ok-walk_argument-in-Judge-3-clause-walked : goal.walk_judgement-returns-in_ok-walk_argument-in-Judge-3-clause-walked
walk_judgement-returns-in_ok-walk_argument-in-Judge-3-clause-walked t c = λ is_one.
    let j = c.in-Judge in
    let v = c.deref-in-Judge.result.now in
    let v_is = c.deref-in-Judge.ensures in
    let T = c.args.types.now in
    let S = c.args.store.now in
    let r0 = c.args.row.now in
    let s = scope_of T S c.args.scope.now in
    let bs = names_in r0.bound.items in
    let vs = c.as_slice.result.now in
    let t1 = c.put_judgement.new.types in
    let t2 = c.walk_context.new.types in
    let r1 = c.put_judgement.new.row in
    let r2 = c.walk_context.new.row in
    let r3 = c.put.new.self in
    let put = c.put_judgement.ensures in
    let list = context s bs (trees_of (map tree_of vs)) in
    let is : c.is_some.result ≡ false = c.is_some.ensures ∙ ap is_some c.in_default-focus.is in
    let head = subst (λ b. Grew t1 S r0 r1 (Ok (judgement_head b))) is (c.in_ok-put_judgement-in-Judge.ensures.head S c.requires.ground.typed) in
    let w = c.in_ok-walk_context-in-Judge.ensures in
    let given = grew_list T t1 t2 S c.args.scope.now r0 r1 r2 r3 (judgement_head false) (trees_of (map tree_of vs)) put.adds c.requires.ground.holds_scope w.adds.kept head w.walked c.in_ok-put-in-Judge.ensures in
    let adds = adds_both T t1 t2 put.adds w.adds in
    let f = made_of_both names.apply (Ok (judgement_head false)) list in
    let same = same_given T t2 S c.args.scope.now r0.bound.items r3.bound.items adds c.requires.ground.holds_scope given.bound f (tree_of v) in
    grew_same (same ∙ sym (unfocused_whole s bs c.args.parse.now j.context j.focus j.goal j.field-3 vs v j.is c.as_slice.ensures v_is c.in_default-focus.is)) (c.in_ok-walk_argument-in-Judge-3.ensures.walked r0 f given)

pub walk-returns-in-Apply-clause-walked : goal.walk-returns-in-Apply-clause-walked
walk-returns-in-Apply-clause-walked t c = c.walk_application.ensures.walked (c.in-Apply.field-0, c.in-Apply.field-1, c.in-Apply.field-2, c.in-Apply.is)

pub walk-returns-in-Judge-clause-walked : goal.walk-returns-in-Judge-clause-walked
walk-returns-in-Judge-clause-walked t c = c.walk_judgement.ensures.walked (c.in-Judge.field-0, c.in-Judge.field-1, c.in-Judge.field-2, c.in-Judge.field-3, c.in-Judge.is)

pub walk_application-returns-in_default-clause-walked : goal.walk_application-returns-in_default-clause-walked
walk_application-returns-in_default-clause-walked t c = λ is_one. absurd (no_application c.args.parse.now c.in_default.not-Apply is_one)

pub walk_judgement-returns-in_default-clause-walked : goal.walk_judgement-returns-in_default-clause-walked
walk_judgement-returns-in_default-clause-walked t c = λ is_one. absurd (no_judgement c.args.parse.now c.in_default.not-Judge is_one)

pub walk_judgement-walk_context-requires : goal.walk_judgement-walk_context-requires
walk_judgement-walk_context-requires t c = (
  less_with_rank (most the_size c.as_slice.result.now) (the_size c.args.parse.now) t
      (list_is_less_deep c.args.parse.now c.in-Judge.context c.in-Judge.focus c.in-Judge.goal c.in-Judge.field-3 c.as_slice.result.now c.in-Judge.is c.as_slice.ensures) c.decreases,
  c.in_ok-put_judgement-in-Judge.ensures.ground c.args.store.now c.args.formulas c.args.scope.now c.requires.ground,
)
