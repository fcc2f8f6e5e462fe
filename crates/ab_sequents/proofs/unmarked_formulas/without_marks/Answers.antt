use Rattle.ab_logic.proofs.Growing.{grows_store}
use Rattle.ab_sequents.proofs.unmarked_formulas.without_marks.Goals as goal

pub returns-clause-grows : goal.returns-clause-grows
returns-clause-grows c = grows_store _ _ _ _ c.requires.world c.erase.ensures.adds.before c.erase.ensures.adds.typed
