use Rattle.std.specs.Prelude.{Ok}
use Rattle.std.proofs.Common.{[], length, refl, sym, ◌∙◌, subst}
use Rattle.ab_inference.specs.Verdicts.{IsVerdict}
use Rattle.ab_inference.specs.declared.decision.Verdict.TheVariants as verdict
use Rattle.ab_term.specs.Types.{Ty, prop}
use Rattle.ab_norm.specs.ab_types.specs.Entries.{signature}
use Rattle.ab_norm.specs.ab_types.specs.Ids.{type_of}
use Rattle.ab_norm.specs.ab_types.proofs.Entries.{type_still_held}
use Rattle.ab_infer.specs.Rows.{Makes}
use Rattle.ab_infer.proofs.Larger.{formulas_more, store_more, type_more}
use Rattle.ab_typing.specs.DefinitionReadings.{clause_of}
use Rattle.ab_declare.specs.ClauseReadings.{Parts}
use Rattle.ab_declare.specs.ClauseMeanings.{variable_from, numbered_names, IsKeptAs}
use Rattle.ab_declare.specs.JoinedRows.{joined, HasReading}
use Rattle.ab_declare.proofs.Answering.{adds_nothing}
use Rattle.ab_declare.proofs.Kept.{makes_more, verdict_read, nothing_read, open_read}
use Rattle.ab_declare.proofs.clause_rows.read_clause.Goals as goal

pub returns-in_err-verdict-clause-adds : goal.returns-in_err-verdict-clause-adds
returns-in_err-verdict-clause-adds g c = adds_nothing c.args.types.now c.decide.new.types c.args.store.now c.in_err-verdict.ensures.kept c.requires.store

pub clause_found-requires-clause-formulas : goal.clause_found-requires-clause-formulas
clause_found-requires-clause-formulas g c = formulas_more c.args.types.now c.decide.new.types c.in_ok-verdict.ensures.kept c.args.formulas c.requires.formulas

pub clause_found-requires-clause-store : goal.clause_found-requires-clause-store
clause_found-requires-clause-store g c = store_more c.args.types.now c.decide.new.types c.in_ok-verdict.ensures.kept c.args.store.now c.requires.store

pub clause_found-requires-clause-expected : goal.clause_found-requires-clause-expected
clause_found-requires-clause-expected g c = type_still_held c.args.types.now c.decide.new.types c.in_ok-verdict.ensures.kept c.args.expected c.requires.expected

pub clause_found-requires-clause-row : goal.clause_found-requires-clause-row
clause_found-requires-clause-row g c =
    let q = c.requires.row in
    let t0 = c.args.types.now in
    let t1 = c.decide.new.types in
    let S = c.args.store.now in
    let row = c.args.row.now in
    let A = type_of t0 c.args.expected in
    let made = variable_from (length S.cells) row.names.items in
    let v = verdict_read t0 t1 S row (Ok (joined q.0 A q.1)) q.2 c.len-base.result c.len.result c.deref.result.now c.deref-2.result.now c.args.formulas.prop c.in_ok-verdict.verdict made
    (c.len-base.ensures ∙ row.variables.ok.0) (c.len.ensures ∙ row.names.ok.0) c.deref.ensures.value c.deref-2.ensures.value c.requires.formulas.prop_is (c.in_ok-verdict.ensures.verdict made) in
    let one : IsVerdict t1 made (length row.variables.items) q.2.sketch prop (verdict.One c.in-One.found) = rw c.in-One.is at v in
    let reading : HasReading t1 (length row.variables.items) c.in-One.found.items (length S.cells) row.names.items q.2.sketch = one in
    subst (λ D. (e : Parts) × (B : Ty) × (m : Makes t1 S row (Ok (joined e D B))) × HasReading t1 (length row.variables.items) c.deref-in-One.result.now (length S.cells) row.names.items m.sketch)
    (sym (type_more t0 t1 c.in_ok-verdict.ensures.kept c.args.expected c.requires.expected)) (
      q.0,
      q.1,
      makes_more t0 t1 S row (Ok (joined q.0 A q.1)) c.in_ok-verdict.ensures.kept c.requires.store q.2,
      subst (λ f. HasReading t1 (length row.variables.items) f (length S.cells) row.names.items q.2.sketch) (sym c.deref-in-One.ensures.value) reading,
    )

pub returns-in-Nothing-clause-read : goal.returns-in-Nothing-clause-read
returns-in-Nothing-clause-read g c = λ e B m.
    let t0 = c.args.types.now in
    let A = type_of t0 c.args.expected in
    let t1 = c.decide.new.types in
    let S = c.args.store.now in
    let row = c.args.row.now in
    let made = numbered_names e in
    let v = verdict_read t0 t1 S row (Ok (joined e A B)) m c.len-base.result c.len.result c.deref.result.now c.deref-2.result.now c.args.formulas.prop c.in_ok-verdict.verdict made
    (c.len-base.ensures ∙ row.variables.ok.0) (c.len.ensures ∙ row.names.ok.0) c.deref.ensures.value c.deref-2.ensures.value c.requires.formulas.prop_is (c.in_ok-verdict.ensures.verdict made) in
    let none : IsVerdict t1 made (length row.variables.items) m.sketch prop verdict.Nothing = rw c.in-Nothing.is at v in
    (nothing_read t0 S row [] (length row.variables.items) e A B m made none, refl)

pub returns-in-Nothing-clause-adds : goal.returns-in-Nothing-clause-adds
returns-in-Nothing-clause-adds g c = adds_nothing c.args.types.now c.decide.new.types c.args.store.now c.in_ok-verdict.ensures.kept c.requires.store

pub returns-in-Open-clause-read : goal.returns-in-Open-clause-read
returns-in-Open-clause-read g c = λ e B m.
    let t0 = c.args.types.now in
    let A = type_of t0 c.args.expected in
    let t1 = c.decide.new.types in
    let S = c.args.store.now in
    let row = c.args.row.now in
    let made = numbered_names e in
    let v = verdict_read t0 t1 S row (Ok (joined e A B)) m c.len-base.result c.len.result c.deref.result.now c.deref-2.result.now c.args.formulas.prop c.in_ok-verdict.verdict made
    (c.len-base.ensures ∙ row.variables.ok.0) (c.len.ensures ∙ row.names.ok.0) c.deref.ensures.value c.deref-2.ensures.value c.requires.formulas.prop_is (c.in_ok-verdict.ensures.verdict made) in
    let first : IsVerdict t1 made (length row.variables.items) m.sketch prop (verdict.Open c.in-Open.place) = rw c.in-Open.is at v in
    open_read t0 S row [] (length row.variables.items) e A B m made c.in-Open.place first

pub returns-in-Open-clause-adds : goal.returns-in-Open-clause-adds
returns-in-Open-clause-adds g c = adds_nothing c.args.types.now c.decide.new.types c.args.store.now c.in_ok-verdict.ensures.kept c.requires.store

pub returns-in_ok-clause-in-One-clause-read : goal.returns-in_ok-clause-in-One-clause-read
returns-in_ok-clause-in-One-clause-read g c = λ e B.
    let t0 = c.args.types.now in
    let t1 = c.decide.new.types in
    let S = c.args.store.now in
    let row = c.args.row.now in
    let A = type_of t1 c.args.expected in
    let made = variable_from (length S.cells) row.names.items in
    subst (λ D. Makes t0 S row (Ok (joined e D B)) → IsKeptAs (signature t1) (length S.cells) e D B (clause_of t1 c.clause_found.new.store c.in_ok-clause-in-One.clause))
    (type_more t0 t1 c.in_ok-verdict.ensures.kept c.args.expected c.requires.expected) (λ m.
    let v = verdict_read t0 t1 S row (Ok (joined e A B)) m c.len-base.result c.len.result c.deref.result.now c.deref-2.result.now c.args.formulas.prop c.in_ok-verdict.verdict made
    (c.len-base.ensures ∙ row.variables.ok.0) (c.len.ensures ∙ row.names.ok.0) c.deref.ensures.value c.deref-2.ensures.value c.requires.formulas.prop_is (c.in_ok-verdict.ensures.verdict made) in
    let one : IsVerdict t1 made (length row.variables.items) m.sketch prop (verdict.One c.in-One.found) = rw c.in-One.is at v in
    let reading : HasReading t1 (length row.variables.items) c.in-One.found.items (length S.cells) row.names.items m.sketch = one in
    c.in_ok-clause-in-One.ensures.clause e B (makes_more t0 t1 S row (Ok (joined e A B)) c.in_ok-verdict.ensures.kept c.requires.store m)
    (subst (λ f. HasReading t1 (length row.variables.items) f (length S.cells) row.names.items m.sketch) (sym c.deref-in-One.ensures.value) reading))
