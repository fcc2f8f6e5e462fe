use Rattle.ab_sequents.proofs.size_marks.arrow.Goals as goal

pub returns-clause-adds : goal.returns-clause-adds
returns-clause-adds c = record { before = c.spine.ensures.before; cells = c.spine.ensures.cells; typed = λ types is. c.spine.ensures.typed types is tt }
