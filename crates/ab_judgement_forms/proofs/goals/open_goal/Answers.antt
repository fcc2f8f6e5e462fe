use Rattle.ab_logic.proofs.Growing.{grows_store}
use Rattle.ab_judgement_forms.proofs.goals.open_goal.Goals as goal

pub returns-clause-grows : goal.returns-clause-grows
returns-clause-grows c = grows_store _ _ _ _ c.requires.world c.open.ensures.adds.before c.open.ensures.adds.typed
