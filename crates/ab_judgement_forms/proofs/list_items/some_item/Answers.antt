use Rattle.ab_logic.proofs.Growing.{grows_store}
use Rattle.ab_judgement_forms.proofs.list_items.some_item.Goals as goal

pub returns-clause-grows : goal.returns-clause-grows
returns-clause-grows c = grows_store _ _ _ _ c.requires.world c.some_item_by.ensures.adds.before c.some_item_by.ensures.adds.typed
