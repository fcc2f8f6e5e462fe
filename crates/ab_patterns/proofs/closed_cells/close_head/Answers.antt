use Rattle.std.proofs.Common.{map, arith, ap, sym, ◌∙◌}
use Rattle.ab_norm.specs.ab_store.specs.Trees.{head_reading}
use Rattle.ab_norm.specs.ab_store.specs.Reading.{cell_variable}
use Rattle.ab_patterns.specs.Abstraction.{head_under_all}
use Rattle.ab_patterns.proofs.UnderAll.{index_stays, index_rises, cell_stays, cell_sinks, const_stays, logic_stays, nominal_stays}
use Rattle.ab_patterns.proofs.closed_cells.close_head.Goals as goal

pub returns-then-index-at-clause-reads : goal.returns-then-index-at-clause-reads
returns-then-index-at-clause-reads c = λ types store.
    let xs = map (cell_variable types store) c.args.cells.now in
    index_stays c.args.at c.in-Index.index xs (omega (arith, c.if-index-at.true))
    ∙ ap (λ h. head_under_all c.args.at xs (head_reading types store h)) (sym c.in-Index.is)

pub returns-in_ok-sum-in-Index-clause-reads : goal.returns-in_ok-sum-in-Index-clause-reads
returns-in_ok-sum-in-Index-clause-reads c = λ types store.
    let xs = map (cell_variable types store) c.args.cells.now in
    index_rises c.args.at c.in-Index.index c.in_ok-sum-in-Index.field-0 c.args.cells.now types store (omega (arith, c.if-index-at.false)) c.in_ok-sum-in-Index.ensures
    ∙ ap (λ h. head_under_all c.args.at xs (head_reading types store h)) (sym c.in-Index.is)

pub returns-in_ok-sum-in-Some-clause-reads : goal.returns-in_ok-sum-in-Some-clause-reads
returns-in_ok-sum-in-Some-clause-reads c = λ types store.
    let found = c.in-Some.ensures in
    cell_sinks types store c.args.at c.args.cells.now c.in-Cell.cell (record { 0 = 0 }) c.in-Some.place c.in_ok-sum-in-Some.field-0 found.0 found.1 (found.2 (record { 0 = 0 })) c.in_ok-sum-in-Some.ensures
    ∙ ap (λ h. head_under_all c.args.at (map (cell_variable types store) c.args.cells.now) (head_reading types store h)) (sym c.in-Cell.is)

pub returns-in-None-clause-reads : goal.returns-in-None-clause-reads
returns-in-None-clause-reads c = λ types store.
    cell_stays types store c.args.at c.args.cells.now c.in-Cell.cell c.in-None.ensures
    ∙ ap (λ h. head_under_all c.args.at (map (cell_variable types store) c.args.cells.now) (head_reading types store h)) (sym c.in-Cell.is)

pub returns-in-Const-clause-reads : goal.returns-in-Const-clause-reads
returns-in-Const-clause-reads c = λ types store. const_stays types store c.args.at c.args.cells.now c.args.head _ c.in-Const.is

pub returns-in-Logic-clause-reads : goal.returns-in-Logic-clause-reads
returns-in-Logic-clause-reads c = λ types store. logic_stays types store c.args.at c.args.cells.now c.args.head _ c.in-Logic.is

pub returns-in-Nominal-clause-reads : goal.returns-in-Nominal-clause-reads
returns-in-Nominal-clause-reads c = λ types store. nominal_stays types store c.args.at c.args.cells.now c.args.head _ _ c.in-Nominal.is
