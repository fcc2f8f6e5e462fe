use Rattle.std.proofs.Common.{◌∙◌, ap}
use Rattle.ab_term.specs.Names.{support}
use Rattle.ab_store.proofs.Kept.{plain_reads}
use Rattle.ab_store.proofs.store.Store.has_nominals.Goals as goal

pub returns-else-facts-2-clause-reads : goal.returns-else-facts-2-clause-reads
returns-else-facts-2-clause-reads c = λ no types.
    ap support (plain_reads types c.args.self.now c.args.id ((c.facts-facts.ensures.tree types).cells no)) ∙ (c.facts-facts.ensures.tree types).nominals c.if-facts.false
