use Rattle.std.proofs.Common.{subst}
use Rattle.ab_unify.specs.Problem.{cells_read}
use Rattle.ab_theory.specs.Equations.{AreCells}
use Rattle.ab_steps.specs.ab_kernel.proofs.NewNumbers.{over_cells}
use Rattle.ab_hypothesis.proofs.beginnings.first_over_cells.Goals as goal

pub returns : goal.returns
returns c s rest e =
    let w = c.args.world.now in
    subst (AreCells (cells_read w.types w.store)) (c.first_goal.ensures.reads s rest e) (over_cells w c.first_goal.result.now c.first_goal.ensures.held)
