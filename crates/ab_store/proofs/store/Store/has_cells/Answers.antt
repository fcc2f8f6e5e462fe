use Rattle.std.proofs.Common.{◌∙◌, ap}
use Rattle.ab_term.specs.Variables.{variables}
use Rattle.ab_store.proofs.Kept.{plain_reads}
use Rattle.ab_store.proofs.store.Store.has_cells.Goals as goal

pub returns-clause-reads : goal.returns-clause-reads
returns-clause-reads c = λ no types.
    ap variables (plain_reads types c.args.self.now c.args.id ((c.facts.ensures.tree types).cells no)) ∙ (c.facts.ensures.tree types).cells no
