use Rattle.std.proofs.Common.{◌-◌, length, arith, sym, ◌∙◌, refl}
use Rattle.ab_patterns.proofs.Placements.{any_default, none_behind, one_behind}
use Rattle.ab_patterns.proofs.closed_cells.behind.Goals as goal

pub loop-done-init : goal.loop-done-init
loop-done-init c = none_behind c.args.cells.now (length c.args.cells.now - 0) c.args.cell (omega arith)

pub loop-done-preserved : goal.loop-done-preserved
loop-done-preserved c =
    one_behind c.args.cells.now c.loop-done.done (length c.args.cells.now - 1 - c.loop-done.done) c.args.cell (record { 0 = 0 }) (omega arith) refl c.loop-done.invariant (λ same. absurd (cc (sym c.if-is_one.false ∙ c.is_one.ensures.1 same)))

pub returns-then-is_one : goal.returns-then-is_one
returns-then-is_one c = (omega arith, c.loop-done.invariant, λ d. any_default c.args.cells.now (length c.args.cells.now - 1 - c.loop-done.done) c.args.cell (record { 0 = 0 }) d (omega arith) (c.is_one.ensures.0 c.if-is_one.true))
