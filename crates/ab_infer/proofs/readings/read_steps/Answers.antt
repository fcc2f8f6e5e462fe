use Rattle.std.proofs.Common.{[], ◌∷◌, length, sym, subst}
use Rattle.ab_norm.specs.ab_types.specs.Ids.{type_of}
use Rattle.ab_norm.proofs.Frame.{typed_none, if_ok}
use Rattle.ab_meaning.specs.ReadingCounts.{IsTheReading}
use Rattle.ab_inference.specs.Sketches.{erase, term_of}
use Rattle.ab_inference.specs.Programs.{Runs}
use Rattle.ab_inference.specs.Verdicts.{types_found}
use Rattle.ab_infer.specs.Outcomes.{nominal_of}
use Rattle.ab_infer.proofs.Larger.{formulas_more, store_more, typed_more_steps, fits_more, items_more}
use Rattle.ab_infer.proofs.readings.read_steps.Goals as goal

pub returns-in_err-decide-clause-adds : goal.returns-in_err-decide-clause-adds
returns-in_err-decide-clause-adds g c =
    typed_none c.decide.new.types c.args.store.now (store_more c.args.types.now c.decide.new.types c.in_err-decide.ensures.kept c.args.store.now c.requires.store)

pub read_found-requires-clause-formulas : goal.read_found-requires-clause-formulas
read_found-requires-clause-formulas g c = formulas_more c.args.types.now c.decide.new.types c.in_ok-decide.ensures.kept c.args.formulas c.requires.formulas

pub read_found-requires-clause-store : goal.read_found-requires-clause-store
read_found-requires-clause-store g c = store_more c.args.types.now c.decide.new.types c.in_ok-decide.ensures.kept c.args.store.now c.requires.store

pub read_found-requires-clause-typed : goal.read_found-requires-clause-typed
read_found-requires-clause-typed g c =
    typed_more_steps c.args.types.now c.decide.new.types c.in_ok-decide.ensures.kept c.args.store.now c.requires.store c.args.base (length c.args.numbers.now) c.args.steps.now c.requires.typed

pub read_found-requires-clause-fit : goal.read_found-requires-clause-fit
read_found-requires-clause-fit g c =
    fits_more c.args.types.now c.decide.new.types c.in_ok-decide.ensures.kept c.args.store.now c.requires.store c.args.base (length c.args.numbers.now) c.args.steps.now c.requires.typed c.requires.fit

pub returns-in-Nothing-clause-outcome : goal.returns-in-Nothing-clause-outcome
returns-in-Nothing-clause-outcome g c = λ names k runs fit base_is apart numbers marks.
    let m = c.in_ok-decide.ensures.verdict nominal_of c.args.store.now.cells names k runs fit base_is numbers.len apart marks in
    rw c.in-Nothing.is at m

pub returns-in-Nothing-clause-adds : goal.returns-in-Nothing-clause-adds
returns-in-Nothing-clause-adds g c =
    typed_none c.decide.new.types c.args.store.now (store_more c.args.types.now c.decide.new.types c.in_ok-decide.ensures.kept c.args.store.now c.requires.store)

pub returns-in-Open-clause-outcome : goal.returns-in-Open-clause-outcome
returns-in-Open-clause-outcome g c = λ names k runs fit base_is apart numbers marks.
    let m = c.in_ok-decide.ensures.verdict nominal_of c.args.store.now.cells names k runs fit base_is numbers.len apart marks in
    rw c.in-Open.is at m

pub returns-in-Open-clause-adds : goal.returns-in-Open-clause-adds
returns-in-Open-clause-adds g c =
    typed_none c.decide.new.types c.args.store.now (store_more c.args.types.now c.decide.new.types c.in_ok-decide.ensures.kept c.args.store.now c.requires.store)

pub returns-in-One-clause-outcome : goal.returns-in-One-clause-outcome
returns-in-One-clause-outcome g c =
    if_ok c.read_found.result (λ outcome h names k runs fit base_is apart numbers marks.
    let old = c.args.types.now in
    let new = c.decide.new.types in
    let A = type_of old c.args.expected in
    let m = c.in_ok-decide.ensures.verdict nominal_of c.args.store.now.cells names k runs fit base_is numbers.len apart marks in
    let one : IsTheReading nominal_of (erase k) A (term_of c.args.base (types_found new c.in-One.found.items) nominal_of k) = rw c.in-One.is at m in
    h names k A
    (subst (λ is. Runs is [] (k ∷ [])) (sym (items_more old new c.in_ok-decide.ensures.kept c.args.store.now c.requires.store c.args.base (length c.args.numbers.now) names c.args.steps.now c.requires.typed c.requires.fit)) runs)
    fit numbers
    (subst (λ f. IsTheReading nominal_of (erase k) A (term_of c.args.base (types_found new f) nominal_of k)) (sym c.deref.ensures.value) one))
    c.read_found.ensures.outcome
