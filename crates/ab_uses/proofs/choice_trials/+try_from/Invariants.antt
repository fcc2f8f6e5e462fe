use Rattle.std.proofs.Common.{◌≡◌, ◌≤◌, take, length}
use Rattle.ab_unify.specs.Problem.{cells_read}
use Rattle.ab_logic.specs.WorldGrowth.{Grows}
use Rattle.ab_logic.specs.SequentReadings.{sequent_of}
use Rattle.ab_logic.specs.Worlds.{declarations_of}
use Rattle.ab_uses.specs.Questions.{using_at}
use Rattle.ab_uses.specs.ChoiceTrials.{NoneServes}
use Rattle.ab_uses.proofs.Branches.{branches}
use Rattle.ab_uses.proofs.choice_trials.+try_from.Given as goal

abbrev pub decreases-try_from : goal.decreases-try_from
decreases-try_from g l = length l.types.now

abbrev pub invariant-loop-a : goal.invariant-loop-a
invariant-loop-a g l = record {
  before : NoneServes (cells_read l.fn.world.types l.fn.world.store) (using_at l.fn.world (sequent_of l.fn.world l.goal) l.question l.aim) (branches l.fn.world.types l.rest l.begun (take l.a-index l.a-items));
  cells : cells_read l.world.types l.world.store ≡ cells_read l.fn.world.types l.fn.world.store;
  grows : Grows l.fn.world l.world;
  declared : declarations_of l.world ≡ declarations_of l.fn.world;
  steps : l.fn.steps ≤ l.steps;
}
