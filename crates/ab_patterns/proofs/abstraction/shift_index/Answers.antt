use Rattle.std.proofs.Common.{arith}
use Rattle.ab_norm.proofs.Frame.{if_ok}
use Rattle.ab_patterns.proofs.Closed.{shift_index-below, shift_index-from}
use Rattle.ab_patterns.proofs.abstraction.shift_index.Goals as goal

pub returns-then-index-at : goal.returns-then-index-at
returns-then-index-at c = shift_index-below c.args.at c.args.index (omega (arith, c.if-index-at.true))

pub returns-else-index-at : goal.returns-else-index-at
returns-else-index-at c = if_ok c.next.result (λ n e. shift_index-from c.args.at c.args.index n (omega (arith, c.if-index-at.false)) e) c.next.ensures
