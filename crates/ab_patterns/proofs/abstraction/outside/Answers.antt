use Rattle.std.proofs.Common.{arith, ap, ◌∙◌}
use Rattle.ab_term.specs.Terms as tree
use Rattle.ab_norm.specs.ab_store.specs.Trees.{head_reading}
use Rattle.ab_patterns.proofs.ToldApart.{told_index}
use Rattle.ab_patterns.proofs.abstraction.outside.Goals as goal

pub returns-then-index-depth-clause-inner : goal.returns-then-index-depth-clause-inner
returns-then-index-depth-clause-inner c = (c.in-Index.index, omega arith, c.in-Index.is)

pub returns-else-index-depth-clause-reads : goal.returns-else-index-depth-clause-reads
returns-else-index-depth-clause-reads c = λ types store. ap (head_reading types store) c.in-Index.is ∙ ap tree.index (omega (arith, c.if-index-depth.false))

pub returns-else-index-depth-clause-told : goal.returns-else-index-depth-clause-told
returns-else-index-depth-clause-told c = λ types name told. told_index types name c.args.head _ told
