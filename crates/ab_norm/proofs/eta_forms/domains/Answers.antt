use Rattle.std.proofs.lemmas.List.Elements.{All-push}
use Rattle.ab_store.specs.ab_types.specs.Ids.{HoldsType, type_of}
use Rattle.ab_norm.proofs.Expanded.{one_domain}
use Rattle.ab_norm.proofs.eta_forms.domains.Goals as goal

pub loop-from-preserved : goal.loop-from-preserved
loop-from-preserved c =
    let types = c.args.types.now in
    let before = c.loop-from.invariant in
    record {
      left = c.in-Arrow.ensures.held.1;
      held = rw c.in_ok-push.ensures.items (All-push (HoldsType types) c.loop-from.list.items c.in-Arrow.from before.held c.in-Arrow.ensures.held.0);
      reads = one_domain (type_of types) c.loop-from.list.items c.push.new.self.items c.in-Arrow.from (type_of types c.loop-from.left) (type_of types c.in-Arrow.to) _
          c.in_ok-push.ensures.items c.in-Arrow.ensures.reads before.reads;
    }
