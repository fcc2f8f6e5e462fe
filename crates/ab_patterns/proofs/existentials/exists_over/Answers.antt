use Rattle.std.proofs.Common.{length, ◌-◌, arith, refl, ap, ◌∙◌}
use Rattle.std.proofs.lemmas.List.{take_all}
use Rattle.ab_norm.specs.ab_store.specs.Trees.{tree_of}
use Rattle.ab_norm.proofs.Frame.{adds_on}
use Rattle.ab_patterns.proofs.Over.{each, all_over, one_over}
use Rattle.ab_patterns.proofs.existentials.exists_over.Goals as goal

pub loop-done-init : goal.loop-done-init
loop-done-init c = record {
  adds = c.close_cells.ensures.adds;
  held = c.in_ok-here.ensures.held;
  tree = λ types.
      ap (λ ks. each types c.args.store.now ks (tree_of types c.close_cells.new.store c.in_ok-here.here)) (take_all (length c.args.cells.now - 0) c.args.cells.now (omega arith))
      ∙ all_over types c.args.store.now c.close_cells.new.store c.args.cells.now c.args.body c.in_ok-here.here (c.in_ok-here.ensures.reads types);
}

pub returns-in_err-here-2-clause-adds : goal.returns-in_err-here-2-clause-adds
returns-in_err-here-2-clause-adds c = adds_on c.args.store.now c.loop-done.store c.exists_of.new.store c.loop-done.invariant.adds c.in_err-here-2.ensures.adds

pub loop-done-preserved : goal.loop-done-preserved
loop-done-preserved c =
    let l = c.loop-done in
    let cells = c.args.cells.now in
    record {
      adds = adds_on c.args.store.now l.store c.exists_of.new.store l.invariant.adds c.in_ok-here-2.ensures.adds;
      held = c.in_ok-here-2.ensures.held;
      tree = λ types. one_over types c.args.store.now l.store c.exists_of.new.store cells l.done (length cells - 1 - l.done) _ _ l.here c.in_ok-here-2.here _ l.invariant.adds.cells (omega (arith, c.loop-done-test.true)) refl refl (l.invariant.tree types)
          (c.in_ok-here-2.ensures.tree types);
    }
