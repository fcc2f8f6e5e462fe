use Rattle.ab_judgement_forms.proofs.opened_goals.between.Goals as goal

pub returns-clause-adds : goal.returns-clause-adds
returns-clause-adds c = record {
  before = c.spine.ensures.before;
  cells = c.spine.ensures.cells;
  typed = c.spine.ensures.typed c.args.types.now c.requires.store c.requires.typed;
}
