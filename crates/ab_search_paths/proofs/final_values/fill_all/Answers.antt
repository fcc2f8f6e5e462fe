use Rattle.std.proofs.Common.{get_or, arith}
use Rattle.ab_unify.proofs.Growth.{grows_on}
use Rattle.ab_search_paths.proofs.final_values.fill_all.Goals as goal

pub fill-requires-clause-cell : goal.fill-requires-clause-cell
fill-requires-clause-cell g c = (c.loop-cell.invariant.grows.cells (get_or c.args.left_open.now c.loop-cell.cell-index (record { 0 = 0 })) (c.requires.left_open c.loop-cell.cell-index (record { 0 = 0 }) (omega arith))).0

pub returns-in_err-fill-clause-grows : goal.returns-in_err-fill-clause-grows
returns-in_err-fill-clause-grows g c = let T = c.args.types.now in grows_on T T T c.args.store.now c.loop-cell.store c.fill.new.store c.loop-cell.invariant.grows c.fill.ensures.grows

pub loop-cell-preserved : goal.loop-cell-preserved
loop-cell-preserved g c =
    let T = c.args.types.now in
    let before = c.loop-cell.invariant.counted in
    let here = c.fill.ensures.steps in
    record {
      grows = grows_on T T T c.args.store.now c.loop-cell.store c.fill.new.store c.loop-cell.invariant.grows c.fill.ensures.grows;
      held = c.in_ok-fill.ensures.held;
      counted = omega (arith, before, here);
    }
