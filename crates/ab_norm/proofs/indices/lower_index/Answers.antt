use Rattle.std.proofs.Common.{sym, ◌∙◌, ap, arith}
use Rattle.ab_term.specs.Substitution as tree
use Rattle.ab_term.proofs.Reaching.{lower_index-below}
use Rattle.ab_norm.proofs.Lowering.{lower_index-same, lower_index-above}
use Rattle.ab_norm.proofs.indices.lower_index.Goals as goal

pub returns-then-index-at : goal.returns-then-index-at
returns-then-index-at c = sym (lower_index-below c.args.at c.args.index c.if-index-at.true)

pub returns-then-index-at-2 : goal.returns-then-index-at-2
returns-then-index-at-2 c = sym (ap (tree.lower_index c.args.at) c.if-index-at-2.true ∙ lower_index-same c.args.at)

pub returns-else-index-at-2 : goal.returns-else-index-at-2
returns-else-index-at-2 c = sym (lower_index-above c.args.at c.args.index (omega arith))
