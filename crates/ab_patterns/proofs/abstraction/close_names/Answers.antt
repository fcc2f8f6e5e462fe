use Rattle.ab_norm.specs.ab_store.specs.Trees.{Holds}
use Rattle.ab_norm.proofs.Frame.{if_ok}
use Rattle.ab_patterns.specs.Abstraction.{IsClosing}
use Rattle.ab_patterns.proofs.Closings.{none_kept}
use Rattle.ab_patterns.proofs.abstraction.close_names.Goals as goal

pub close_at-requires-clause-memo : goal.close_at-requires-clause-memo
close_at-requires-clause-memo c = none_kept (λ u k q. Holds c.args.store.now u × Holds c.args.store.now q) c.new-memo.result c.new-memo.ensures

pub returns-clause-reads : goal.returns-clause-reads
returns-clause-reads c = if_ok c.close_at.result (λ r made types told.
    made types told (none_kept (λ u k q. IsClosing types c.args.store.now c.args.names.now u k q) c.new-memo.result c.new-memo.ensures)) c.close_at.ensures.reads
