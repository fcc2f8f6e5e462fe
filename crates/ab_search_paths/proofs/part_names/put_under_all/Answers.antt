use Rattle.std.proofs.Common.{arith}
use Rattle.ab_norm.proofs.Frame.{typed_on, adds_but_types}
use Rattle.ab_search_paths.proofs.Parts.{one_more}
use Rattle.ab_search_paths.proofs.part_names.put_under_all.Goals as goal

pub put_under-requires-clause-terms : goal.put_under-requires-clause-terms
put_under-requires-clause-terms g c = (adds_but_types c.args.types.now c.args.store.now c.loop-term.store c.loop-term.invariant.adds c.args.terms.now c.requires.terms).0

pub returns-in_err-put_under-clause-adds : goal.returns-in_err-put_under-clause-adds
returns-in_err-put_under-clause-adds g c = typed_on c.args.types.now c.args.store.now c.loop-term.store c.put_under.new.store c.loop-term.invariant.adds c.put_under.ensures.adds

pub returns-in_err-push-clause-adds : goal.returns-in_err-push-clause-adds
returns-in_err-push-clause-adds g c = typed_on c.args.types.now c.args.store.now c.loop-term.store c.put_under.new.store c.loop-term.invariant.adds c.put_under.ensures.adds

pub loop-term-preserved : goal.loop-term-preserved
loop-term-preserved g c =
    let l = c.loop-term in
    let U = c.put_under.new.store in
    let adds = c.put_under.ensures.adds in
    record {
      held = one_more l.store U adds.before l.made.items c.push.new.self.items c.in_ok-put_under.field-0 c.in_ok-push.ensures.items l.invariant.held c.in_ok-put_under.ensures.held;
      adds = typed_on c.args.types.now c.args.store.now l.store U l.invariant.adds adds;
      steps = omega (arith, l.invariant.steps, c.put_under.ensures.steps);
    }
