use Rattle.std.proofs.Common.{arith}
use Rattle.std.proofs.lemmas.List.Elements.{All-push}
use Rattle.ab_term.specs.Reach.{raise}
use Rattle.ab_store.specs.Trees.{Holds}
use Rattle.ab_norm.proofs.Frame.{adds_on, still_held, read_more}
use Rattle.ab_norm.proofs.term_walks.lift_all.Goals as goal

pub lift-requires-clause-store : goal.lift-requires-clause-store
lift-requires-clause-store g c = c.loop-term.invariant.adds.typed c.args.types.now c.requires.store

pub lift-requires-clause-term : goal.lift-requires-clause-term
lift-requires-clause-term g c = c.loop-term.invariant.adds.before.ids _ (c.requires.terms c.loop-term.term-index (record { 0 = 0 }) (omega arith))

pub returns-in_err-lift-clause-adds : goal.returns-in_err-lift-clause-adds
returns-in_err-lift-clause-adds g c = adds_on c.args.store.now c.loop-term.store c.lift.new.store c.loop-term.invariant.adds c.in_err-lift.ensures.adds

pub returns-in_err-push-clause-adds : goal.returns-in_err-push-clause-adds
returns-in_err-push-clause-adds g c = adds_on c.args.store.now c.loop-term.store c.lift.new.store c.loop-term.invariant.adds c.in_ok-lift.ensures.adds

pub loop-term-preserved : goal.loop-term-preserved
loop-term-preserved g c =
    let before = c.loop-term.invariant in
    let made = c.in_ok-lift.ensures in
    record {
      adds = adds_on c.args.store.now c.loop-term.store c.lift.new.store before.adds made.adds;
      held = rw c.in_ok-push.ensures.items (All-push (Holds c.lift.new.store) c.loop-term.lifted.items c.in_ok-lift.field-0 (still_held c.loop-term.store c.lift.new.store c.loop-term.lifted.items made.adds before.held) made.held);
      reads = read_more c.args.types.now (raise c.args.by 0) c.args.store.now c.loop-term.store c.lift.new.store c.args.terms.now c.loop-term.lifted.items c.push.new.self.items c.loop-term.term-index (record { 0 = 0 }) c.in_ok-lift.field-0
          before.adds made.adds c.requires.terms before.held before.reads made.reads (omega arith) c.in_ok-push.ensures.items;
      steps = omega (arith, before.steps, made.steps);
    }
