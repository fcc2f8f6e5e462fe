use Rattle.std.proofs.Common.{arith}
use Rattle.std.proofs.lemmas.Grind.{common_steps}
use Rattle.std.proofs.lemmas.List.Elements.{All-push, All-weaker}
use Rattle.ab_norm.specs.ab_store.specs.Trees.{Holds}
use Rattle.ab_norm.proofs.Frame.{typed_from, typed_on}
use Rattle.ab_search_paths.proofs.likeness.resolve_terms.Goals as goal

pub returns-in_err-copy_resolved-clause-adds : goal.returns-in_err-copy_resolved-clause-adds
returns-in_err-copy_resolved-clause-adds g c =
    let T = c.args.types.now in
    let l = c.loop-term in
    typed_on T c.args.store.now l.store c.copy_resolved.new.store l.invariant.adds (typed_from T l.store c.copy_resolved.new.store c.in_err-copy_resolved.ensures.adds l.invariant.adds.typed)

pub returns-in_err-push-clause-adds : goal.returns-in_err-push-clause-adds
returns-in_err-push-clause-adds g c =
    let T = c.args.types.now in
    let l = c.loop-term in
    typed_on T c.args.store.now l.store c.copy_resolved.new.store l.invariant.adds (typed_from T l.store c.copy_resolved.new.store c.in_ok-copy_resolved.ensures.adds l.invariant.adds.typed)

pub loop-term-preserved : goal.loop-term-preserved
loop-term-preserved g c =
    let T = c.args.types.now in
    let l = c.loop-term in
    let new = c.copy_resolved.new.store in
    let e = c.in_ok-copy_resolved.ensures in
    record {
      held = rw c.in_ok-push.ensures.items (All-push (Holds new) l.list.items c.in_ok-copy_resolved.field-0 (All-weaker (Holds l.store) (Holds new) e.adds.before.ids l.list.items l.invariant.held) e.held);
      count = grind (arith, common_steps);
      adds = typed_on T c.args.store.now l.store new l.invariant.adds (typed_from T l.store new e.adds l.invariant.adds.typed);
      steps = omega (arith, e.steps, l.invariant.steps);
    }
