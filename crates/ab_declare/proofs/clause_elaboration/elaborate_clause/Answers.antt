use Rattle.std.proofs.Common.{[], length, sym, ap, ◌∙◌, subst}
use Rattle.std.specs.Prelude.{Ok}
use Rattle.std.proofs.lemmas.Result.{err_from_is_err_and}
use Rattle.ab_term.specs.Types.{Ty}
use Rattle.ab_term.specs.Constants.{type_in}
use Rattle.ab_norm.specs.ab_types.specs.Ids.{type_of}
use Rattle.ab_norm.specs.ab_types.proofs.Entries.{type_still_held}
use Rattle.ab_syntax.specs.Commands.{clause_of}
use Rattle.ab_meaning.specs.Scopes.{resolved}
use Rattle.ab_infer.specs.NameScopes.{scope_of}
use Rattle.ab_infer.specs.Rows.{Makes}
use Rattle.ab_infer.proofs.Larger.{type_more}
use Rattle.ab_infer.proofs.ElaborationScopes.{ground}
use Rattle.ab_declare.specs.ClauseReadings.{Parts}
use Rattle.ab_declare.specs.JoinedRows.{joined, IsRead}
use Rattle.ab_declare.specs.ClauseMeanings.{body_type, body_found}
use Rattle.ab_declare.proofs.Answering.{adds_nothing, same_parts, none_found, row_parts, answered, meant, proposed}
use Rattle.ab_declare.proofs.clause_elaboration.elaborate_clause.Goals as goal

pub returns-in_err-formulas-clause-adds : goal.returns-in_err-formulas-clause-adds
returns-in_err-formulas-clause-adds g c = adds_nothing c.args.types.now c.formulas.new.types c.args.store.now c.in_err-formulas.ensures.adds.kept c.requires.store

pub row_of_clause-requires-clause-ground : goal.row_of_clause-requires-clause-ground
row_of_clause-requires-clause-ground g c =
    ground c.args.types.now c.formulas.new.types c.args.store.now c.in_ok-formulas.formulas c.clause_scope-scope.result c.in_ok-formulas.ensures.adds c.in_ok-formulas.ensures.table c.requires.store c.in_ok-formulas.ensures.formulas
    (c.clause_scope-scope.ensures.held c.args.types.now c.args.store.now)

pub row_of_clause-requires-clause-expected : goal.row_of_clause-requires-clause-expected
row_of_clause-requires-clause-expected g c = type_still_held c.args.types.now c.formulas.new.types c.in_ok-formulas.ensures.adds.kept c.args.expected c.requires.expected

pub returns-in_err-row-clause-answer : goal.returns-in_err-row-clause-answer
returns-in_err-row-clause-answer g c =
    let p = err_from_is_err_and c.from_residual-in_err-row.result c.from_residual-in_err-row.ensures.1 in
    let t0 = c.args.types.now in
    let t1 = c.formulas.new.types in
    let S = c.args.store.now in
    let scope = c.clause_scope-scope.result in
    let clause = clause_of c.args.parse.now in
    let A = type_of t1 c.args.expected in
    rw (p.1, p.2) (none_found (scope_of t1 S scope) t0 t1 c.in_ok-formulas.ensures.adds (c.clause_scope-scope.ensures.is t1 S) clause S A (body_type A clause.body) (type_of t0 c.args.expected) c.in_err-row.field-0.0 c.in_err-row.ensures.row)

pub read_clause-requires-clause-expected : goal.read_clause-requires-clause-expected
read_clause-requires-clause-expected g c =
    type_still_held c.formulas.new.types c.row_of_clause.new.types c.in_ok-row.ensures.adds.kept c.args.expected
    (type_still_held c.args.types.now c.formulas.new.types c.in_ok-formulas.ensures.adds.kept c.args.expected c.requires.expected)

pub read_clause-requires-clause-row : goal.read_clause-requires-clause-row
read_clause-requires-clause-row g c =
    let t1 = c.formulas.new.types in
    let S = c.args.store.now in
    let s = scope_of t1 S c.clause_scope-scope.result in
    let clause = clause_of c.args.parse.now in
    let A = type_of t1 c.args.expected in
    let B = body_type A clause.body in
    let r = row_parts c.row_of_clause.new.types S c.in_ok-row.row A B (resolved s [] clause.head) (body_found s clause.body) c.in_ok-row.ensures.row in
    subst (λ D. (e : Parts) × (C : Ty) × Makes c.row_of_clause.new.types S c.in_ok-row.row (Ok (joined e D C)))
    (sym (type_more t1 c.row_of_clause.new.types c.in_ok-row.ensures.adds.kept c.args.expected
    (type_still_held c.args.types.now t1 c.in_ok-formulas.ensures.adds.kept c.args.expected c.requires.expected))) (r.0, B, r.2)

pub returns-clause-answer : goal.returns-clause-answer
returns-clause-answer g c =
    let t0 = c.args.types.now in
    let t1 = c.formulas.new.types in
    let t3 = c.read_clause.new.types in
    let S = c.args.store.now in
    let s = scope_of t1 S c.clause_scope-scope.result in
    let clause = clause_of c.args.parse.now in
    let A = type_of t1 c.args.expected in
    let B = body_type A clause.body in
    let r = row_parts c.row_of_clause.new.types S c.in_ok-row.row A B (resolved s [] clause.head) (body_found s clause.body) c.in_ok-row.ensures.row in
    let found = sym (same_parts s t0 t1 c.in_ok-formulas.ensures.adds (c.clause_scope-scope.ensures.is t1 S) clause) ∙ r.1 in
    let constants = c.read_clause.ensures.constants ∙ (c.in_ok-row.ensures.adds.constants ∙ c.in_ok-formulas.ensures.adds.constants) in
    answered t0 t3 c.read_clause.new.store (length S.cells) clause r.0 A (type_of t0 c.args.expected) c.read_clause.result found (ap type_in constants)
    (type_more t0 t1 c.in_ok-formulas.ensures.adds.kept c.args.expected c.requires.expected)
    (subst (λ D. Makes c.row_of_clause.new.types S c.in_ok-row.row (Ok (joined r.0 D B)) → IsRead t3 c.read_clause.new.store (length S.cells) r.0 D B clause.place c.read_clause.result)
    (type_more t1 c.row_of_clause.new.types c.in_ok-row.ensures.adds.kept c.args.expected
    (type_still_held t0 t1 c.in_ok-formulas.ensures.adds.kept c.args.expected c.requires.expected)) (c.read_clause.ensures.read r.0 B) r.2)

pub returns-clause-means : goal.returns-clause-means
returns-clause-means g c =
    meant c.args.types.now c.read_clause.new.types c.read_clause.new.store (length c.args.store.now.cells) (clause_of c.args.parse.now) (type_of c.args.types.now c.args.expected) c.read_clause.result c.requires.table
    (returns-clause-answer g c)

pub returns-clause-proposed : goal.returns-clause-proposed
returns-clause-proposed g c is =
    let constants = c.read_clause.ensures.constants ∙ (c.in_ok-row.ensures.adds.constants ∙ c.in_ok-formulas.ensures.adds.constants) in
    proposed c.args.types.now c.read_clause.new.types c.read_clause.new.store (length c.args.store.now.cells) (clause_of c.args.parse.now) (type_of c.args.types.now c.args.expected) c.read_clause.result c.requires.table
    (ap type_in constants) is (returns-clause-answer g c)
