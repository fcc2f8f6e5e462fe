use Rattle.ab_norm.proofs.Frame.{if_ok}
use Rattle.ab_logic.proofs.Growing.{grows_store}
use Rattle.ab_sequents.proofs.size_marks.marked_parts.Goals as goal

pub returns-clause-grows : goal.returns-clause-grows
returns-clause-grows c = grows_store _ _ _ _ c.requires.world c.mark_each.ensures.adds.before (c.mark_each.ensures.adds.typed _ c.requires.world.typed)

pub returns-clause-reads : goal.returns-clause-reads
returns-clause-reads c = if_ok c.mark_each.result (λ ts reads. reads c.args.world.now.types) c.mark_each.ensures.reads
