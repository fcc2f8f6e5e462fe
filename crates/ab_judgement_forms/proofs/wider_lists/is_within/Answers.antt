use Rattle.ab_logic.proofs.Growing.{grows_store}
use Rattle.ab_judgement_forms.proofs.wider_lists.is_within.Goals as goal

pub returns-clause-grows : goal.returns-clause-grows
returns-clause-grows c = grows_store _ _ _ _ c.requires.world c.within_by.ensures.adds.before c.within_by.ensures.adds.typed
