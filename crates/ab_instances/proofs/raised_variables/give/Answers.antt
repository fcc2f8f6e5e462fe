use Rattle.std.proofs.Common.{arith, sym, subst}
use Rattle.std.specs.List.{All}
use Rattle.std.proofs.lemmas.List.Elements.{All-push, All-weaker}
use Rattle.ab_norm.specs.ab_store.specs.Trees.{Holds}
use Rattle.ab_norm.proofs.Frame.{typed_on}
use Rattle.ab_instances.specs.ListReadings.{given_at}
use Rattle.ab_instances.proofs.Made.{given_here, given_more}
use Rattle.ab_instances.proofs.raised_variables.give.Goals as goal

pub eta_given-requires-clause-args : goal.eta_given-requires-clause-args
eta_given-requires-clause-args c =
    subst (All (Holds c.loop-i.store)) (sym c.in_ok-args.ensures) (All-weaker (Holds c.args.store.now) (Holds c.loop-i.store) c.loop-i.invariant.adds.before.ids c.args.forms.now c.requires.forms)

pub returns-in_err-push-clause-adds : goal.returns-in_err-push-clause-adds
returns-in_err-push-clause-adds c = typed_on c.args.types.now c.args.store.now c.loop-i.store c.eta_given.new.store c.loop-i.invariant.adds c.in_ok-eta_given.ensures.adds

pub loop-i-preserved : goal.loop-i-preserved
loop-i-preserved c =
    let types = c.args.types.now in
    let l = c.loop-i in
    let new = c.eta_given.new.store in
    let adds = c.in_ok-eta_given.ensures.adds in
    let term = c.in_ok-eta_given.field-0 in
    record {
      held = rw c.in_ok-push.ensures.items (All-push (Holds new) l.terms.items term (All-weaker (Holds l.store) (Holds new) adds.before.ids l.terms.items l.invariant.held) c.in_ok-eta_given.ensures.held);
      trees = given_more types c.args.store.now l.store new adds.before (given_at types c.args.store.now c.args.forms.now) c.args.made.now c.args.cells.now l.i (record { 0 = 0 }) (record { 0 = 0 }) l.terms.items c.push.new.self.items term
          (omega (arith, c.loop-i-test.true)) c.requires.as_many c.in_ok-push.ensures.items l.invariant.held l.invariant.trees
          (given_here types c.args.store.now l.store new l.invariant.adds.before l.invariant.adds.cells c.args.forms.now c.in_ok-args.args.items c.requires.forms c.in_ok-args.ensures c.cell_type-left.result _ _ term c.cell_type-left.ensures.ty c.in_ok-eta_given.ensures.tree);
      adds = typed_on types c.args.store.now l.store new l.invariant.adds adds;
    }
