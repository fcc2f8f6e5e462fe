use Rattle.std.proofs.Common.{◌≡◌, sym, subst, IfOk}
use Rattle.ab_term.proofs.Reaching.{raise_index-below, raise_index-from}
use Rattle.ab_norm.proofs.indices.raise_index.Goals as goal

pub returns-then-index-at : goal.returns-then-index-at
returns-then-index-at c = sym (raise_index-below c.args.by c.args.at c.args.index c.if-index-at.true)

pub returns-else-index-at : goal.returns-else-index-at
returns-else-index-at c =
    subst (λ m. IfOk c.sum.result (λ n. n ≡ m)) (sym (raise_index-from c.args.by c.args.at c.args.index c.if-index-at.false)) c.sum.ensures
