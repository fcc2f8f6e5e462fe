use Rattle.std.proofs.Common.{[], sym, ◌∙◌}
use Rattle.std.proofs.lemmas.Result.{err_from_is_err_and}
use Rattle.ab_norm.specs.ab_types.specs.Ids.{type_of}
use Rattle.ab_syntax.specs.Commands.{clause_of}
use Rattle.ab_meaning.specs.Scopes.{resolved}
use Rattle.ab_infer.specs.NameScopes.{scope_of}
use Rattle.ab_infer.proofs.ElaborationScopes.{ground}
use Rattle.ab_declare.specs.ClauseMeanings.{body_type, body_found}
use Rattle.ab_declare.proofs.Answering.{same_parts, names_failed, row_parts}
use Rattle.ab_declare.proofs.clause_elaboration.look_at_names.Goals as goal

pub row_of_clause-requires-clause-ground : goal.row_of_clause-requires-clause-ground
row_of_clause-requires-clause-ground c =
    ground c.args.types.now c.formulas.new.types c.args.store.now c.in_ok-formulas.formulas c.clause_scope-scope.result c.in_ok-formulas.ensures.adds c.in_ok-formulas.ensures.table c.requires.store c.in_ok-formulas.ensures.formulas
    (c.clause_scope-scope.ensures.held c.args.types.now c.args.store.now)

pub returns-in_err-row_of_clause-clause-names : goal.returns-in_err-row_of_clause-clause-names
returns-in_err-row_of_clause-clause-names c =
    let p = err_from_is_err_and c.from_residual-in_err-row_of_clause.result c.from_residual-in_err-row_of_clause.ensures.1 in
    let t1 = c.formulas.new.types in
    let S = c.args.store.now in
    let clause = clause_of c.args.parse.now in
    let A = type_of t1 c.in_ok-formulas.formulas.prop in
    rw (p.1, p.2)
    (names_failed (scope_of t1 S c.clause_scope-scope.result) c.args.types.now t1 c.in_ok-formulas.ensures.adds (c.clause_scope-scope.ensures.is t1 S) clause A (body_type A clause.body) c.in_err-row_of_clause.field-0.0 c.in_err-row_of_clause.ensures.row)

pub returns-clause-names : goal.returns-clause-names
returns-clause-names c =
    let t1 = c.formulas.new.types in
    let S = c.args.store.now in
    let s = scope_of t1 S c.clause_scope-scope.result in
    let clause = clause_of c.args.parse.now in
    let A = type_of t1 c.in_ok-formulas.formulas.prop in
    let r = row_parts c.row_of_clause.new.types S c.in_ok-row_of_clause.field-0 A (body_type A clause.body) (resolved s [] clause.head) (body_found s clause.body) c.in_ok-row_of_clause.ensures.row in
    (r.0, sym (same_parts s c.args.types.now t1 c.in_ok-formulas.ensures.adds (c.clause_scope-scope.ensures.is t1 S) clause) ∙ r.1)
