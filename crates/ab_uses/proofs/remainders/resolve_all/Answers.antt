use Rattle.std.proofs.Common.{arith}
use Rattle.std.proofs.lemmas.List.Elements.{All-push, All-weaker}
use Rattle.ab_norm.specs.ab_store.specs.Trees.{Holds}
use Rattle.ab_norm.proofs.Frame.{typed_on, typed_from}
use Rattle.ab_uses.proofs.Equations.{resolved_more}
use Rattle.ab_uses.proofs.remainders.resolve_all.Goals as goal

pub returns-in_err-copy_resolved-clause-adds : goal.returns-in_err-copy_resolved-clause-adds
returns-in_err-copy_resolved-clause-adds g c =
    let i = c.loop-term.invariant in
    typed_on c.args.types.now c.args.store.now c.loop-term.store c.copy_resolved.new.store i.adds (typed_from c.args.types.now c.loop-term.store c.copy_resolved.new.store c.copy_resolved.ensures.adds i.adds.typed)

pub returns-in_err-push-clause-adds : goal.returns-in_err-push-clause-adds
returns-in_err-push-clause-adds g c =
    let i = c.loop-term.invariant in
    typed_on c.args.types.now c.args.store.now c.loop-term.store c.copy_resolved.new.store i.adds (typed_from c.args.types.now c.loop-term.store c.copy_resolved.new.store c.copy_resolved.ensures.adds i.adds.typed)

pub loop-term-preserved : goal.loop-term-preserved
loop-term-preserved g c =
    let T = c.args.types.now in
    let S = c.args.store.now in
    let V = c.loop-term.store in
    let W = c.copy_resolved.new.store in
    let i = c.loop-term.invariant in
    let more = typed_from T V W c.copy_resolved.ensures.adds i.adds.typed in
    let before = i.steps in
    let here = c.copy_resolved.ensures.steps in
    record {
      adds = typed_on T S V W i.adds more;
      held = rw c.in_ok-push.ensures.items (All-push (Holds W) c.loop-term.list.items c.in_ok-copy_resolved.field-0 (All-weaker (Holds V) (Holds W) more.before.ids c.loop-term.list.items i.held) c.in_ok-copy_resolved.ensures.held);
      trees = resolved_more T S V W i.adds more c.args.terms.now c.loop-term.list.items c.push.new.self.items c.loop-term.term-index (record { 0 = 0 }) c.in_ok-copy_resolved.field-0 c.requires.terms i.held i.trees
          c.in_ok-copy_resolved.ensures.tree (omega arith) c.in_ok-push.ensures.items;
      steps = omega (arith, before, here);
    }
