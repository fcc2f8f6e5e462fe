use Rattle.std.proofs.Common.{◌∙◌, ap, arith}
use Rattle.ab_norm.specs.ab_store.proofs.Growing.{extended_on}
use Rattle.ab_judgement_forms.specs.PartReadings.{name_read}
use Rattle.ab_judgements.proofs.CellsMade.{cells_more, made_more, held_more}
use Rattle.ab_judgements.proofs.part_cells.cells_for.Goals as goal

pub returns-in_err-cell_for-clause-before : goal.returns-in_err-cell_for-clause-before
returns-in_err-cell_for-clause-before c = extended_on c.args.store.now c.loop-name.store c.cell_for.new.store c.loop-name.invariant.before c.in_err-cell_for.ensures.before

pub returns-in_err-push-clause-before : goal.returns-in_err-push-clause-before
returns-in_err-push-clause-before c = extended_on c.args.store.now c.loop-name.store c.cell_for.new.store c.loop-name.invariant.before c.in_ok-cell_for.ensures.before

pub loop-name-preserved : goal.loop-name-preserved
loop-name-preserved c =
    let T = c.args.types.now in
    let S0 = c.args.store.now in
    let l = c.loop-name in
    let inv = l.invariant in
    let V = c.cell_for.new.store in
    let one = c.in_ok-cell_for.ensures in
    let made = c.in_ok-cell_for.field-0 in
    let d = c.name-item.result in
    let entry = one.entry ∙ ap (name_read T) c.name-item.is in
    record {
      before = extended_on S0 l.store V inv.before one.before;
      typed = one.typed;
      nodes = one.nodes ∙ inv.nodes;
      held = held_more T S0 l.store V inv.typed one.before one.typed made one.number one.one c.args.names.now l.name-index d (omega (arith, c.loop-name-test.true)) entry inv.cells l.made.items c.push.new.self.items c.in_ok-push.ensures.items inv.held;
      cells = cells_more T S0 l.store V inv.typed one.before one.typed made one.number one.one c.args.names.now l.name-index d (omega (arith, c.loop-name-test.true)) entry inv.cells;
      made = made_more T S0 l.store V inv.typed one.before one.typed made one.number one.one c.args.names.now l.name-index d (omega (arith, c.loop-name-test.true)) entry inv.cells l.made.items c.push.new.self.items c.in_ok-push.ensures.items inv.held inv.made;
    }
