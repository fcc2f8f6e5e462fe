use Rattle.std.proofs.Common.{[], arith}
use Rattle.ab_norm.proofs.Frame.{typed_on, typed_from}
use Rattle.ab_search_ways.proofs.Resolved.{terms_more, terms_push}
use Rattle.ab_term.specs.Types.{prop}
use Rattle.ab_search_ways.proofs.Bare.{kept_term}
use Rattle.ab_search_ways.proofs.goals_left.resolved_terms.Goals as goal

pub returns-in_err-copy_resolved-clause-adds : goal.returns-in_err-copy_resolved-clause-adds
returns-in_err-copy_resolved-clause-adds g c =
    typed_on c.args.types.now c.args.store.now c.loop-id.store c.copy_resolved.new.store c.loop-id.invariant.adds (typed_from c.args.types.now c.loop-id.store c.copy_resolved.new.store c.copy_resolved.ensures.adds c.loop-id.invariant.adds.typed)

pub returns-in_err-push-clause-adds : goal.returns-in_err-push-clause-adds
returns-in_err-push-clause-adds g c =
    typed_on c.args.types.now c.args.store.now c.loop-id.store c.copy_resolved.new.store c.loop-id.invariant.adds (typed_from c.args.types.now c.loop-id.store c.copy_resolved.new.store c.copy_resolved.ensures.adds c.loop-id.invariant.adds.typed)

pub loop-id-preserved : goal.loop-id-preserved
loop-id-preserved g c =
    let types = c.args.types.now in
    let old = c.args.store.now in
    let l = c.loop-id in
    let new = c.copy_resolved.new.store in
    let id = c.in_ok-copy_resolved.field-0 in
    let adds = typed_from types l.store new c.copy_resolved.ensures.adds l.invariant.adds.typed in
    let counted = l.invariant.counted in
    let more = c.copy_resolved.ensures.steps in
    record {
      adds = typed_on types old l.store new l.invariant.adds adds;
      reads = terms_more types old l.store new l.invariant.adds adds c.args.ids.now l.list.items c.push.new.self.items l.id-index (record { 0 = 0 }) id
          (omega (arith, c.loop-id-test.true)) c.requires.ids l.invariant.typed c.in_ok-copy_resolved.ensures.tree c.in_ok-push.ensures.items l.invariant.reads;
      typed = terms_push types old l.store new l.invariant.adds adds l.list.items c.push.new.self.items id l.invariant.typed
          (c.in_ok-copy_resolved.ensures.term [] prop (kept_term types old l.store l.invariant.adds [] _ prop (c.requires.ids l.id-index (record { 0 = 0 }) (omega (arith, c.loop-id-test.true))))) c.in_ok-push.ensures.items;
      counted = omega (arith, counted, more);
    }
