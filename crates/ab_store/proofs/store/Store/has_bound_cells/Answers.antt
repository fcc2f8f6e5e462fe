use Rattle.ab_store.proofs.Kept.{plain_reads}
use Rattle.ab_store.proofs.store.Store.has_bound_cells.Goals as goal

pub returns-else-facts-clause-reads : goal.returns-else-facts-clause-reads
returns-else-facts-clause-reads c = λ no types. plain_reads types c.args.self.now c.args.id ((c.facts-facts.ensures.tree types).cells no)
