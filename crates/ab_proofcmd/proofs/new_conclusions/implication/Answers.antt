use Rattle.ab_logic.proofs.Growing.{grows_store}
use Rattle.ab_proofcmd.proofs.new_conclusions.implication.Goals as goal

pub returns-clause-grows : goal.returns-clause-grows
returns-clause-grows c = grows_store _ _ _ _ c.requires.world c.spine.ensures.before (c.spine.ensures.typed _ c.requires.world.typed tt)
