use Rattle.std.proofs.Common.{sym, subst}
use Rattle.std.specs.List.{All}
use Rattle.ab_search_paths.specs.Paths.{IsTermIn, HoldsTaken}
use Rattle.ab_search_paths.specs.Frames.{as_world}
use Rattle.ab_search_paths.proofs.answer_paths.resolved_way.Goals as goal

pub resolved_term-requires-clause-term : goal.resolved_term-requires-clause-term
resolved_term-requires-clause-term g c = (subst (HoldsTaken (as_world c.args.types.now c.args.store.now)) c.in-Term.is c.requires.taken).1.0

pub returns-in_ok-resolved_term-in-Term-clause-taken : goal.returns-in_ok-resolved_term-in-Term-clause-taken
returns-in_ok-resolved_term-in-Term-clause-taken g c =
    let h = subst (HoldsTaken (as_world c.args.types.now c.args.store.now)) c.in-Term.is c.requires.taken in (
      h.0,
      c.in_ok-resolved_term-in-Term.ensures.is h.0 h.1,
    )

pub resolved_all-requires-clause-terms : goal.resolved_all-requires-clause-terms
resolved_all-requires-clause-terms g c =
    let w = as_world c.args.types.now c.args.store.now in
    let h = subst (HoldsTaken w) c.in-Clause.is c.requires.taken in
    subst (All (IsTermIn w)) (sym c.deref.ensures.value) h.values

pub resolved_all-requires-in-Rule-clause-terms : goal.resolved_all-requires-in-Rule-clause-terms
resolved_all-requires-in-Rule-clause-terms g c =
    let w = as_world c.args.types.now c.args.store.now in
    let h = subst (HoldsTaken w) c.in-Rule.is c.requires.taken in
    subst (All (IsTermIn w)) (sym c.deref-in-Rule.ensures.value) h

pub returns-in_ok-clause-in-Clause-clause-taken : goal.returns-in_ok-clause-in-Clause-clause-taken
returns-in_ok-clause-in-Clause-clause-taken g c =
    let w = as_world c.args.types.now c.args.store.now in
    let h = subst (HoldsTaken w) c.in-Clause.is c.requires.taken in
    let more = c.resolved_all.ensures.adds.before in
    record {
      head = more.ids c.in-Clause.clause.head h.head;
      body = more.ids c.in-Clause.clause.body h.body;
      names = h.names;
      values = c.in_ok-clause-in-Clause.ensures.terms;
    }
