use Rattle.ab_judgement_forms.proofs.list_items.first_name.Goals as goal

pub returns-clause-adds : goal.returns-clause-adds
returns-clause-adds c = record { before = c.spine.ensures.before; cells = c.spine.ensures.cells; typed = c.spine.ensures.typed c.args.types.now c.requires.store tt }
