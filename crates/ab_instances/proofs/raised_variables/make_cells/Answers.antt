use Rattle.std.proofs.Common.{ℕ, ◌++◌, ◌∷◌, [], codes, length, take, get_or, arith, sym, ◌∙◌, ap}
use Rattle.std.proofs.lemmas.List.{take_more}
use Rattle.ab_norm.specs.ab_store.proofs.Growing.{extended_on}
use Rattle.ab_unifiers.specs.Alternatives.{cells_over}
use Rattle.ab_unify.specs.Problem.{cells_read, cells_at}
use Rattle.ab_unify.proofs.Growth.{grows_on}
use Rattle.ab_instances.specs.ListReadings.{names_read}
use Rattle.ab_instances.specs.RaisedCells.{ids_from}
use Rattle.ab_instances.proofs.Made.{names_held, cells_step, count_is, ids_push}
use Rattle.ab_instances.proofs.raised_variables.make_cells.Goals as goal

pub make_one-requires-clause-names : goal.make_one-requires-clause-names
make_one-requires-clause-names c = names_held c.args.types.now c.loop-cell.types c.loop-cell.invariant.grows.table c.args.names.now c.requires.names

pub returns-in_err-make_one-clause-grows : goal.returns-in_err-make_one-clause-grows
returns-in_err-make_one-clause-grows c = grows_on c.args.types.now c.loop-cell.types c.make_one.new.types c.args.store.now c.loop-cell.store c.make_one.new.store c.loop-cell.invariant.grows c.in_err-make_one.ensures.grows

pub returns-in_err-make_one-clause-before : goal.returns-in_err-make_one-clause-before
returns-in_err-make_one-clause-before c = extended_on c.args.store.now c.loop-cell.store c.make_one.new.store c.loop-cell.invariant.before c.in_err-make_one.ensures.before

pub returns-in_err-push-clause-grows : goal.returns-in_err-push-clause-grows
returns-in_err-push-clause-grows c = grows_on c.args.types.now c.loop-cell.types c.make_one.new.types c.args.store.now c.loop-cell.store c.make_one.new.store c.loop-cell.invariant.grows c.in_ok-make_one.ensures.grows

pub returns-in_err-push-clause-before : goal.returns-in_err-push-clause-before
returns-in_err-push-clause-before c = extended_on c.args.store.now c.loop-cell.store c.make_one.new.store c.loop-cell.invariant.before c.in_ok-make_one.ensures.before

pub loop-cell-preserved : goal.loop-cell-preserved
loop-cell-preserved c =
    let T0 = c.args.types.now in
    let S0 = c.args.store.now in
    let l = c.loop-cell in
    let T = c.make_one.new.types in
    let S = c.make_one.new.store in
    let inv = l.invariant in
    let one = c.in_ok-make_one.ensures in
    let made = c.in_ok-make_one.field-0 in
    let cells = c.args.cells.now in
    let cell = get_or cells l.cell-index (record { 0 = 0 }) in
    let ns = names_read T0 c.args.names.now in
    let more = take_more cells l.cell-index (record { 0 = 0 }) (omega (arith, c.loop-cell-test.true)) in
    let number = one.number ∙ count_is T0 l.types S0 l.store ns (take l.cell-index cells) inv.cells in
    record {
      grows = grows_on T0 l.types T S0 l.store S inv.grows one.grows;
      before = extended_on S0 l.store S inv.before one.before;
      cells = cells_step T0 l.types T S0 l.store S c.requires.store inv.grows one.grows c.args.names.now c.requires.names cell made (c.requires.cells l.cell-index (record { 0 = 0 }) (omega (arith, c.loop-cell-test.true))) one.number one.one one.hint one.ty (take l.cell-index cells) inv.cells
          ∙ sym (ap (λ k. cells_read T0 S0 ++ cells_over (codes "x") ns (cells_at T0 S0 k)) more);
      made = c.in_ok-push.ensures.items ∙ ap (λ k. k ++ made ∷ []) inv.made ∙ ap (λ (n : ℕ). ids_from (length S0.cells) (take l.cell-index cells) ++ record { 0 = n } ∷ []) number
          ∙ sym (ids_push (length S0.cells) (take l.cell-index cells) cell) ∙ sym (ap (ids_from (length S0.cells)) more);
    }
