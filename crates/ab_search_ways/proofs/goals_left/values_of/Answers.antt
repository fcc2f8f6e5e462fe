use Rattle.std.proofs.Common.{◌<◌, List, length, get_or, sym, subst, arith}
use Rattle.ab_norm.specs.ab_store.specs.declared.node.CellEntry.{CellEntry}
use Rattle.ab_norm.proofs.Frame.{typed_on}
use Rattle.ab_search_ways.proofs.Valued.{values_more}
use Rattle.ab_search_ways.proofs.goals_left.values_of.Goals as goal

pub value_of-requires-clause-cell : goal.value_of-requires-clause-cell
value_of-requires-clause-cell g c =
    subst (λ (k : List CellEntry). (get_or c.args.cells.now c.loop-cell.cell-index (record { 0 = 0 })).0 < length k) (sym c.loop-cell.invariant.adds.cells) (c.requires.cells c.loop-cell.cell-index (record { 0 = 0 }) (omega (arith, c.loop-cell-test.true)))

pub returns-in_err-value_of-clause-adds : goal.returns-in_err-value_of-clause-adds
returns-in_err-value_of-clause-adds g c = typed_on c.args.types.now c.args.store.now c.loop-cell.store c.value_of.new.store c.loop-cell.invariant.adds c.value_of.ensures.adds

pub returns-in_err-push-clause-adds : goal.returns-in_err-push-clause-adds
returns-in_err-push-clause-adds g c = typed_on c.args.types.now c.args.store.now c.loop-cell.store c.value_of.new.store c.loop-cell.invariant.adds c.value_of.ensures.adds

pub loop-cell-preserved : goal.loop-cell-preserved
loop-cell-preserved g c =
    let types = c.args.types.now in
    let l = c.loop-cell in
    let new = c.value_of.new.store in
    let adds = c.value_of.ensures.adds in
    let counted = l.invariant.counted in
    let more = c.value_of.ensures.steps in
    record {
      adds = typed_on types c.args.store.now l.store new l.invariant.adds adds;
      answer = values_more types l.store new adds c.args.cells.now l.list.items c.push.new.self.items l.cell-index (record { 0 = 0 }) c.in_ok-value_of.field-0 (omega (arith, c.loop-cell-test.true)) c.in_ok-value_of.ensures.cell c.in_ok-value_of.ensures.held c.in_ok-push.ensures.items l.invariant.answer;
      counted = omega (arith, counted, more);
    }
