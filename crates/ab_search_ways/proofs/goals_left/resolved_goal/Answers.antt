use Rattle.std.proofs.Common.{[], ap, ◌∙◌}
use Rattle.ab_term.specs.Types.{prop}
use Rattle.ab_norm.specs.ab_store.specs.Reading.{reading}
use Rattle.ab_norm.proofs.Frame.{typed_on, typed_from}
use Rattle.std.specs.Prelude.{map}
use Rattle.ab_search_ways.proofs.Resolved.{goal_made, formulas_kept}
use Rattle.ab_search_ways.proofs.Bare.{kept_term}
use Rattle.ab_search_ways.proofs.goals_left.resolved_goal.Goals as goal

pub returns-in_err-conclusion-clause-adds : goal.returns-in_err-conclusion-clause-adds
returns-in_err-conclusion-clause-adds g c =
    typed_on c.args.types.now c.args.store.now c.resolved_terms.new.store c.copy_resolved.new.store c.resolved_terms.ensures.adds (typed_from c.args.types.now c.resolved_terms.new.store c.copy_resolved.new.store c.copy_resolved.ensures.adds c.resolved_terms.ensures.adds.typed)

pub returns-in_err-from_slice-clause-adds : goal.returns-in_err-from_slice-clause-adds
returns-in_err-from_slice-clause-adds g c =
    typed_on c.args.types.now c.args.store.now c.resolved_terms.new.store c.copy_resolved.new.store c.resolved_terms.ensures.adds (typed_from c.args.types.now c.resolved_terms.new.store c.copy_resolved.new.store c.copy_resolved.ensures.adds c.resolved_terms.ensures.adds.typed)

pub returns-clause-adds : goal.returns-clause-adds
returns-clause-adds g c =
    typed_on c.args.types.now c.args.store.now c.resolved_terms.new.store c.copy_resolved.new.store c.resolved_terms.ensures.adds (typed_from c.args.types.now c.resolved_terms.new.store c.copy_resolved.new.store c.copy_resolved.ensures.adds c.resolved_terms.ensures.adds.typed)

pub returns-clause-reads : goal.returns-clause-reads
returns-clause-reads g c =
    let types = c.args.types.now in
    let old = c.args.store.now in
    let mid = c.resolved_terms.new.store in
    let new = c.copy_resolved.new.store in
    let first = c.resolved_terms.ensures.adds in
    let adds = typed_from types mid new c.copy_resolved.ensures.adds first.typed in
    goal_made types old mid new first adds c.args.goal.now c.in_ok-added.added.items c.in_ok-conclusion.conclusion c.in_ok-from_slice.field-0.items c.in_ok-added.ensures.typed
    (c.in_ok-added.ensures.reads ∙ ap (map (reading types old)) c.deref.ensures.value) c.requires.goal.conclusion c.in_ok-conclusion.ensures.tree (c.in_ok-from_slice.ensures.items ∙ c.deref-2.ensures.value)

pub returns-clause-typed : goal.returns-clause-typed
returns-clause-typed g c =
    let types = c.args.types.now in
    let old = c.args.store.now in
    let mid = c.resolved_terms.new.store in
    let new = c.copy_resolved.new.store in
    let first = c.resolved_terms.ensures.adds in
    let adds = typed_from types mid new c.copy_resolved.ensures.adds first.typed in
    record {
      added = formulas_kept types old mid new first adds c.in_ok-added.added.items c.in_ok-added.ensures.typed;
      conclusion = c.in_ok-conclusion.ensures.term [] prop (kept_term types old mid first [] c.args.goal.now.conclusion prop c.requires.goal.conclusion);
    }
