use Rattle.ab_norm.proofs.Frame.{typed_on}
use Rattle.ab_search_paths.proofs.Parts.{one_more}
use Rattle.ab_search_paths.proofs.part_names.forms_of.Goals as goal

pub returns-in_err-push-clause-adds : goal.returns-in_err-push-clause-adds
returns-in_err-push-clause-adds c = typed_on c.args.types.now c.args.store.now c.loop-a.store c.eta.new.store c.loop-a.invariant.adds c.in_ok-eta.ensures.adds

pub loop-a-preserved : goal.loop-a-preserved
loop-a-preserved c =
    let l = c.loop-a in
    let U = c.eta.new.store in
    let adds = c.in_ok-eta.ensures.adds in
    record {
      held = one_more l.store U adds.before l.list.items c.push.new.self.items c.in_ok-eta.field-0 c.in_ok-push.ensures.items l.invariant.held c.in_ok-eta.ensures.held;
      adds = typed_on c.args.types.now c.args.store.now l.store U l.invariant.adds adds;
    }
