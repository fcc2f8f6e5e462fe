use Rattle.std.proofs.Common.{[], ◌∙◌}
use Rattle.std.proofs.lemmas.Result.{err_from_is_err_and}
use Rattle.ab_norm.specs.ab_types.specs.Ids.{type_of}
use Rattle.ab_norm.specs.ab_types.proofs.Entries.{extended_by_itself, extended_twice, type_still_held}
use Rattle.ab_grammar.specs.Tree.{place_of}
use Rattle.ab_syntax.specs.ab_expressions.specs.SyntaxTrees.{tree_of}
use Rattle.ab_norm.proofs.Frame.{typed_none}
use Rattle.ab_meaning.specs.Scopes.{resolved}
use Rattle.ab_inference.specs.Sketches.{erase}
use Rattle.ab_infer.specs.NameScopes as resolving
use Rattle.ab_infer.specs.Outcomes.{IsOutcome}
use Rattle.ab_infer.proofs.Larger.{store_more, type_more}
use Rattle.ab_infer.specs.ScopeReadings.{scope_of}
use Rattle.ab_infer.proofs.ElaborationScopes.{ground}
use Rattle.ab_infer.proofs.Answering.{same_found, fails, answered, numbers_are, few, typed_here, fits_here, within_here, outcome_here}
use Rattle.ab_infer.proofs.elaboration.elaborate.Goals as goal

pub returns-in_err-inner-clause-kept : goal.returns-in_err-inner-clause-kept
returns-in_err-inner-clause-kept g c = extended_by_itself c.args.types.now

pub returns-in_err-inner-clause-adds : goal.returns-in_err-inner-clause-adds
returns-in_err-inner-clause-adds g c = typed_none c.args.types.now c.args.store.now c.requires.store

pub returns-in_err-formulas-clause-adds : goal.returns-in_err-formulas-clause-adds
returns-in_err-formulas-clause-adds g c =
    typed_none c.formulas.new.types c.args.store.now (store_more c.args.types.now c.formulas.new.types c.in_err-formulas.ensures.adds.kept c.args.store.now c.requires.store)

pub row_of-requires : goal.row_of-requires
row_of-requires g c =
    let t = c.args.types.now in
    let S = c.args.store.now in
    record {
      ground = ground t c.formulas.new.types S c.in_ok-formulas.formulas c.in_ok-inner.inner c.in_ok-formulas.ensures.adds c.in_ok-formulas.ensures.table c.requires.store c.in_ok-formulas.ensures.formulas (c.in_ok-inner.ensures.held t S c.requires.scope);
    }

pub returns-in_err-row-clause-answer : goal.returns-in_err-row-clause-answer
returns-in_err-row-clause-answer g c =
    let p = err_from_is_err_and c.from_residual-in_err-row.result c.from_residual-in_err-row.ensures.1 in
    let t = c.args.types.now in
    let S = c.args.store.now in
    let e = tree_of c.args.parse.now in
    let n = c.in_ok-inner.inner in
    let one = c.formulas.new.types in
    let same = same_found t one S c.args.scope.now n e c.in_ok-formulas.ensures.adds (c.in_ok-inner.ensures.held t S c.requires.scope) (c.in_ok-inner.ensures.same t S) in
    rw (p.1, p.2) (fails c.row_of.new.types S (resolved (resolving.scope_of one S n) [] e) (resolved (scope_of t S c.args.scope.now) [] e) (type_of t c.args.expected) (place_of e) _ same c.in_err-row.ensures.row)

pub returns-in_err-row-clause-kept : goal.returns-in_err-row-clause-kept
returns-in_err-row-clause-kept g c = extended_twice c.args.types.now c.formulas.new.types c.row_of.new.types c.in_ok-formulas.ensures.adds.kept c.in_err-row.ensures.adds.kept

pub returns-in_err-row-clause-adds : goal.returns-in_err-row-clause-adds
returns-in_err-row-clause-adds g c = typed_none c.row_of.new.types c.args.store.now c.in_err-row.ensures.ground.typed

pub returns-in_err-numbers-clause-kept : goal.returns-in_err-numbers-clause-kept
returns-in_err-numbers-clause-kept g c = extended_twice c.args.types.now c.formulas.new.types c.row_of.new.types c.in_ok-formulas.ensures.adds.kept c.in_ok-row.ensures.adds.kept

pub returns-in_err-numbers-clause-adds : goal.returns-in_err-numbers-clause-adds
returns-in_err-numbers-clause-adds g c = typed_none c.row_of.new.types c.args.store.now c.in_ok-row.ensures.ground.typed

pub read_steps-requires : goal.read_steps-requires
read_steps-requires g c =
    let t = c.args.types.now in
    let two = c.row_of.new.types in
    let S = c.args.store.now in
    let row = c.in_ok-row.row in
    let m = c.in_ok-row.ensures.row in
    let on = c.in_ok-row.ensures.ground in
    let n = c.len.result in
    let ns = c.deref-2.result.now in
    let b = c.len.ensures ∙ row.variables.ok.0 in
    let are = numbers_are row.names.items c.deref.result.now c.in_ok-numbers.numbers.items ns c.deref.ensures.value c.deref-2.ensures.value c.in_ok-numbers.ensures in
    record {
      table = on.table;
      formulas = on.are_formulas;
      store = on.typed;
      sum = few two S row _ m n ns b are;
      typed = typed_here two S row _ m n ns b are c.deref-3.result.now c.deref-3.ensures.value;
      fit = fits_here two S row _ m n ns b are c.deref-3.result.now c.deref-3.ensures.value;
      marks = within_here two S row _ m n ns b are c.deref-4.result.now c.deref-4.ensures.value;
      expected = type_still_held t two (extended_twice t c.formulas.new.types two c.in_ok-formulas.ensures.adds.kept c.in_ok-row.ensures.adds.kept) c.args.expected c.requires.expected;
    }

pub returns-in_err-outcome-clause-kept : goal.returns-in_err-outcome-clause-kept
returns-in_err-outcome-clause-kept g c =
    extended_twice c.args.types.now c.row_of.new.types c.read_steps.new.types
    (extended_twice c.args.types.now c.formulas.new.types c.row_of.new.types c.in_ok-formulas.ensures.adds.kept c.in_ok-row.ensures.adds.kept) c.in_err-outcome.ensures.kept

pub returns-clause-kept : goal.returns-clause-kept
returns-clause-kept g c =
    extended_twice c.args.types.now c.row_of.new.types c.read_steps.new.types
    (extended_twice c.args.types.now c.formulas.new.types c.row_of.new.types c.in_ok-formulas.ensures.adds.kept c.in_ok-row.ensures.adds.kept) c.in_ok-outcome.ensures.kept

pub returns-clause-answer : goal.returns-clause-answer
returns-clause-answer g c =
    let t = c.args.types.now in
    let one = c.formulas.new.types in
    let two = c.row_of.new.types in
    let last = c.read_steps.new.types in
    let S = c.args.store.now in
    let made = c.read_steps.new.store in
    let x = c.args.expected in
    let e = tree_of c.args.parse.now in
    let inner = c.in_ok-inner.inner in
    let row = c.in_ok-row.row in
    let m = c.in_ok-row.ensures.row in
    let n = c.len.result in
    let ns = c.deref-2.result.now in
    let b = c.len.ensures ∙ row.variables.ok.0 in
    let are = numbers_are row.names.items c.deref.result.now c.in_ok-numbers.numbers.items ns c.deref.ensures.value c.deref-2.ensures.value c.in_ok-numbers.ensures in
    let same = same_found t one S c.args.scope.now inner e c.in_ok-formulas.ensures.adds (c.in_ok-inner.ensures.held t S c.requires.scope) (c.in_ok-inner.ensures.same t S) in
    let kept = extended_twice t one two c.in_ok-formulas.ensures.adds.kept c.in_ok-row.ensures.adds.kept in
    let outcome = outcome_here two S row _ m n ns b are (λ k. IsOutcome last made k (type_of two x) c.in_ok-outcome.outcome) c.deref-3.result.now c.deref-4.result.now c.deref-3.ensures.value c.deref-4.ensures.value c.in_ok-outcome.ensures.outcome in
    answered last made (erase m.sketch) (resolved (resolving.scope_of one S inner) [] e) (resolved (scope_of t S c.args.scope.now) [] e) (type_of t x) (type_of two x) c.place_of.result (place_of e) c.answer.result
    m.is same (type_more t two kept x c.requires.expected) c.place_of.ensures (c.answer.ensures last made (erase m.sketch) (type_of two x) outcome)
