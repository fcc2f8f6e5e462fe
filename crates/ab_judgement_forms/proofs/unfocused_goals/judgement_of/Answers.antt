use Rattle.ab_logic.proofs.Growing.{grows_store}
use Rattle.ab_judgement_forms.proofs.unfocused_goals.judgement_of.Goals as goal

pub returns-clause-grows : goal.returns-clause-grows
returns-clause-grows c = grows_store _ _ _ _ c.requires.world c.marked_judgement.ensures.adds.before c.marked_judgement.ensures.adds.typed
