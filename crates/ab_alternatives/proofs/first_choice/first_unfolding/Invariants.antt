use Rattle.std.proofs.Common.{◌≡◌, ◌≤◌}
use Rattle.ab_unify.specs.Problem.{cells_read}
use Rattle.ab_logic.specs.WorldGrowth.{Grows}
use Rattle.ab_logic.specs.SequentReadings.{sequent_of}
use Rattle.ab_logic.specs.Worlds.{declarations_of}
use Rattle.ab_alternatives.specs.AtomReadings.{defined_read}
use Rattle.ab_alternatives.specs.FirstChoice.{NoneBefore}
use Rattle.ab_alternatives.proofs.first_choice.first_unfolding.Given as goal

abbrev pub invariant-loop-place : goal.invariant-loop-place
invariant-loop-place g l = record {
  before : NoneBefore (cells_read l.fn.world.types l.fn.world.store) (sequent_of l.fn.world l.goal) (defined_read l.fn.world l.atom) l.place;
  cells : cells_read l.world.types l.world.store ≡ cells_read l.fn.world.types l.fn.world.store;
  grows : Grows l.fn.world l.world;
  declared : declarations_of l.world ≡ declarations_of l.fn.world;
  steps : l.fn.steps ≤ l.steps;
}
