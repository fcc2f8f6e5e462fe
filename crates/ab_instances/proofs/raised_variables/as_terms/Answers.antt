use Rattle.std.proofs.Common.{arith}
use Rattle.std.proofs.lemmas.List.Elements.{All-push, All-weaker}
use Rattle.ab_norm.specs.ab_store.specs.Trees.{Holds}
use Rattle.ab_norm.proofs.Frame.{typed_on}
use Rattle.ab_instances.proofs.Made.{forms_push}
use Rattle.ab_instances.proofs.raised_variables.as_terms.Goals as goal

pub returns-in_err-push-clause-adds : goal.returns-in_err-push-clause-adds
returns-in_err-push-clause-adds c = typed_on c.args.types.now c.args.store.now c.loop-a.store c.eta.new.store c.loop-a.invariant.adds c.in_ok-eta.ensures.adds

pub loop-a-preserved : goal.loop-a-preserved
loop-a-preserved c =
    let l = c.loop-a in
    let new = c.eta.new.store in
    let adds = c.in_ok-eta.ensures.adds in
    record {
      held = rw c.in_ok-push.ensures.items (All-push (Holds new) l.list.items c.in_ok-eta.field-0 (All-weaker (Holds l.store) (Holds new) adds.before.ids l.list.items l.invariant.held) c.in_ok-eta.ensures.held);
      trees = forms_push c.args.types.now l.store new adds.before c.args.names.now l.a-index (record { number = 0; ty = record { 0 = 0 } }) l.list.items c.push.new.self.items c.in_ok-eta.field-0 (omega arith) c.in_ok-push.ensures.items l.invariant.held
          l.invariant.trees c.in_ok-eta.ensures.tree;
      adds = typed_on c.args.types.now c.args.store.now l.store new l.invariant.adds adds;
    }
