use Rattle.ab_logic.proofs.Growing.{grows_store}
use Rattle.ab_sequents.proofs.conjunctions.with_parts.Goals as goal

pub returns-clause-grows : goal.returns-clause-grows
returns-clause-grows c = grows_store _ _ _ _ c.requires.world c.refill.ensures.adds.before (c.refill.ensures.adds.typed _ c.requires.world.typed)
