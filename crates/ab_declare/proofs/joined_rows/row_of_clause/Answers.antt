use Rattle.std.specs.Prelude.{option_map}
use Rattle.std.proofs.Common.{[], sym, ap, ◌∙◌, subst}
use Rattle.std.proofs.lemmas.Result.{err_from_is_err_and}
use Rattle.ab_term.specs.Types.{arrow}
use Rattle.ab_norm.specs.ab_types.specs.Ids.{type_of}
use Rattle.ab_syntax.specs.ab_expressions.specs.SyntaxTrees.{tree_of}
use Rattle.ab_meaning.specs.Scopes.{resolved}
use Rattle.ab_infer.specs.NameScopes.{scope_of, names_in}
use Rattle.ab_infer.specs.Rows.{Grew}
use Rattle.ab_infer.proofs.Grounds.{adds_both, ground_more, same_scope}
use Rattle.ab_infer.proofs.Cases.{same_place}
use Rattle.ab_infer.proofs.Resolving.{fails_on}
use Rattle.ab_declare.specs.ClauseMeanings as meanings
use Rattle.ab_declare.specs.ClauseMeanings.{body_found}
use Rattle.ab_declare.specs.JoinedRows.{joined_found}
use Rattle.ab_declare.proofs.Walks.{row_made, head_fails, body_fails}
use Rattle.ab_declare.proofs.joined_rows.row_of_clause.Goals as goal

pub returns-in_err-joiner-clause-ground : goal.returns-in_err-joiner-clause-ground
returns-in_err-joiner-clause-ground c =
    ground_more c.args.types.now c.joining_type.new.types c.in_err-joiner.ensures.adds c.args.store.now c.args.formulas c.args.scope.now c.in_err-joiner.ensures.table c.requires.ground

pub returns-in_err-put-clause-ground : goal.returns-in_err-put-clause-ground
returns-in_err-put-clause-ground c =
    ground_more c.args.types.now c.joining_type.new.types c.in_ok-joiner.ensures.adds c.args.store.now c.args.formulas c.args.scope.now c.in_ok-joiner.ensures.table c.requires.ground

pub walk-requires : goal.walk-requires
walk-requires c = record {
  ground = ground_more c.args.types.now c.joining_type.new.types c.in_ok-joiner.ensures.adds c.args.store.now c.args.formulas c.args.scope.now c.in_ok-joiner.ensures.table c.requires.ground;
}

pub returns-in_err-walk-clause-row : goal.returns-in_err-walk-clause-row
returns-in_err-walk-clause-row c =
    let p = err_from_is_err_and c.from_residual-in_err-walk.result c.from_residual-in_err-walk.ensures.1 in
    let t0 = c.args.types.now in
    let t1 = c.joining_type.new.types in
    let S = c.args.store.now in
    let scope = c.args.scope.now in
    let s = scope_of t0 S scope in
    let e = tree_of c.args.parse.now.head in
    let b = option_map tree_of c.args.parse.now.body in
    let A = type_of t0 c.args.expected in
    let B = meanings.body_type A b in
    let r1 = c.put.new.self in
    let same = same_place t0 t1 S scope [] r1.bound.items e c.in_ok-joiner.ensures.adds c.requires.ground.holds_scope (c.in_ok-put.ensures.bound ∙ c.new-row.ensures.bound) in
    rw (p.1, p.2) (fails_on (resolved (scope_of t1 S scope) (names_in r1.bound.items) e) (joined_found A B (resolved s [] e) (body_found s b)) c.in_err-walk.field-0.0
    (λ x h. head_fails S A B (resolved s [] e) (body_found s b) x (sym same ∙ h)) c.in_err-walk.ensures.walked)

pub returns-in_err-walk_body-clause-row : goal.returns-in_err-walk_body-clause-row
returns-in_err-walk_body-clause-row c =
    let p = err_from_is_err_and c.from_residual-in_err-walk_body.result c.from_residual-in_err-walk_body.ensures.1 in
    let t0 = c.args.types.now in
    let t1 = c.joining_type.new.types in
    let t2 = c.walk.new.types in
    let S = c.args.store.now in
    let scope = c.args.scope.now in
    let s = scope_of t0 S scope in
    let e = tree_of c.args.parse.now.head in
    let b = option_map tree_of c.args.parse.now.body in
    let A = type_of t0 c.args.expected in
    let B = meanings.body_type A b in
    let r1 = c.put.new.self in
    let r2 = c.walk.new.row in
    let same = same_place t0 t1 S scope [] r1.bound.items e c.in_ok-joiner.ensures.adds c.requires.ground.holds_scope (c.in_ok-put.ensures.bound ∙ c.new-row.ensures.bound) in
    let scopes = same_scope t0 t2 (adds_both t0 t1 t2 c.in_ok-joiner.ensures.adds c.in_ok-walk.ensures.adds) S scope c.requires.ground.holds_scope in
    rw (p.1, p.2) (fails_on (body_found (scope_of t2 S scope) b) (joined_found A B (resolved s [] e) (body_found s b)) c.in_err-walk_body.field-0.0
    (λ x h. body_fails S A B (resolved s [] e) (body_found s b) t2 r1 r2 x (subst (Grew t2 S r1 r2) same c.in_ok-walk.ensures.walked) (ap (λ z. body_found z b) (sym scopes) ∙ h)) c.in_err-walk_body.ensures.walked)

pub returns-clause-row : goal.returns-clause-row
returns-clause-row c =
    let t0 = c.args.types.now in
    let t1 = c.joining_type.new.types in
    let t2 = c.walk.new.types in
    let t3 = c.walk_body.new.types in
    let S = c.args.store.now in
    let scope = c.args.scope.now in
    let s = scope_of t0 S scope in
    let e = tree_of c.args.parse.now.head in
    let b = option_map tree_of c.args.parse.now.body in
    let A = type_of t0 c.args.expected in
    let B = meanings.body_type A b in
    let on = c.requires.ground in
    let r0 = c.new-row.result in
    let r1 = c.put.new.self in
    let r2 = c.walk.new.row in
    let r3 = c.put-2.new.self in
    let r4 = c.walk_body.new.row in
    let n = c.new-row.ensures in
    let same = same_place t0 t1 S scope [] r1.bound.items e c.in_ok-joiner.ensures.adds on.holds_scope (c.in_ok-put.ensures.bound ∙ n.bound) in
    let scopes = same_scope t0 t2 (adds_both t0 t1 t2 c.in_ok-joiner.ensures.adds c.in_ok-walk.ensures.adds) S scope on.holds_scope in
    let ground = ground_more t0 t1 c.in_ok-joiner.ensures.adds S c.args.formulas scope c.in_ok-joiner.ensures.table on in
    let is = c.in_ok-joiner.ensures.is
    ∙ (ap (λ C. arrow A (arrow C (type_of t0 c.args.formulas.prop))) (c.body_type-body.ensures.is t0 on.are_formulas)
    ∙ ap (λ C. arrow A (arrow B C)) on.are_formulas.prop_is) in
    row_made S A B (resolved s [] e) (body_found s b) t1 t2 t3 r0 r1 r2 r3 r4 c.put-3.new.self c.in_ok-joiner.joiner ground.typed c.in_ok-joiner.ensures.held is c.in_ok-walk.ensures.adds.kept c.in_ok-walk_body.ensures.adds.kept
    n.steps n.marks n.names n.variables n.bound c.in_ok-put.ensures (subst (Grew t2 S r1 r2) same c.in_ok-walk.ensures.walked) c.in_ok-put-2.ensures
    (subst (λ z. Grew t3 S r3 r4 (body_found z b)) scopes c.in_ok-walk_body.ensures.walked) c.in_ok-put-3.ensures
