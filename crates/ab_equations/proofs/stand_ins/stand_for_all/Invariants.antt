use Rattle.std.proofs.Common.{◌≡◌}
use Rattle.ab_equations.proofs.StandingAll.{Stood}
use Rattle.ab_equations.proofs.stand_ins.stand_for_all.Given as goal

abbrev pub invariant-loop-cell : goal.invariant-loop-cell
invariant-loop-cell g l = record {
  stood : Stood l.fn.world l.cells l.cell-index l.fn.goal l.world l.over;
  counted : l.steps ≡ l.fn.steps;
}
