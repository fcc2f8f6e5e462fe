use Rattle.std.proofs.Common.{arith, refl, map, subst, sym}
use Rattle.ab_term.specs.Substitution.{instance_by_all}
use Rattle.ab_term.specs.Typing.{HasType}
use Rattle.ab_term.proofs.Preservation.{instance_by_all_typed}
use Rattle.ab_store.specs.ab_types.specs.Entries.{signature}
use Rattle.ab_store.specs.Trees.{tree_of}
use Rattle.std.proofs.lemmas.List.{drop_all}
use Rattle.ab_norm.proofs.Frame.{adds_none, adds_on}
use Rattle.ab_norm.proofs.Instances.{instance_more}
use Rattle.ab_norm.proofs.Read.{instance_read}
use Rattle.ab_norm.proofs.instantiation.instantiate.Goals as goal

pub loop-arg-init : goal.loop-arg-init
loop-arg-init g c = record {
  adds = adds_none c.args.store.now;
  held = c.requires.lam;
  tree = refl;
  steps = omega (arith, c.tick.ensures);
}

pub apply-requires-clause-store : goal.apply-requires-clause-store
apply-requires-clause-store g c = c.loop-arg.invariant.adds.typed c.args.types.now c.requires.store

pub returns-in_err-here-clause-typed : goal.returns-in_err-here-clause-typed
returns-in_err-here-clause-typed g c = c.in_err-here.ensures.adds.typed c.args.types.now (c.loop-arg.invariant.adds.typed c.args.types.now c.requires.store)

pub returns-in_err-here-clause-adds : goal.returns-in_err-here-clause-adds
returns-in_err-here-clause-adds g c = adds_on c.args.store.now c.loop-arg.store c.apply.new.store c.loop-arg.invariant.adds c.in_err-here.ensures.adds

pub loop-arg-preserved : goal.loop-arg-preserved
loop-arg-preserved g c =
    let before = c.loop-arg.invariant in
    let made = c.in_ok-here.ensures in
    record {
      adds = adds_on c.args.store.now c.loop-arg.store c.apply.new.store before.adds made.adds;
      held = made.held;
      tree = instance_more c.args.types.now c.args.store.now c.loop-arg.store c.apply.new.store c.loop-arg.here c.in_ok-here.here (record { 0 = 0 }) c.args.args.now c.loop-arg.arg-index
          (instance_by_all (tree_of c.args.types.now c.args.store.now c.args.lam) (map (tree_of c.args.types.now c.args.store.now) c.args.args.now))
          before.adds c.requires.args (omega arith) made.reads before.tree;
      steps = omega (arith, before.steps, made.steps);
    }

pub returns-clause-term : goal.returns-clause-term
returns-clause-term g c = λ G A B d ds.
    let none = drop_all c.loop-arg.arg-index c.args.args.now c.loop-arg-test.false in
    let e = rw none at c.loop-arg.invariant.tree in
    (c.loop-arg.invariant.held, subst (λ t. HasType (signature c.args.types.now) G t B) (sym e) (instance_by_all_typed (signature c.args.types.now) (map (tree_of c.args.types.now c.args.store.now) c.args.args.now) d.1 ds))

pub returns-clause-reads : goal.returns-clause-reads
returns-clause-reads g c = λ G A B d ds.
    let none = drop_all c.loop-arg.arg-index c.args.args.now c.loop-arg-test.false in
    let e = rw none at c.loop-arg.invariant.tree in
    instance_read c.args.types.now c.args.store.now c.loop-arg.store c.loop-arg.invariant.adds.before (c.loop-arg.invariant.adds.typed c.args.types.now c.requires.store) G A B c.args.lam c.loop-arg.here c.args.args.now c.requires.args d ds e

pub returns-clause-typed : goal.returns-clause-typed
returns-clause-typed g c = c.loop-arg.invariant.adds.typed c.args.types.now c.requires.store
