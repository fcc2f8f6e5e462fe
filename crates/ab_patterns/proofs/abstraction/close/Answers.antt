use Rattle.std.proofs.Common.{[], ◌∙◌, ap}
use Rattle.std.proofs.lemmas.List.Elements.{All-nil, All-cons}
use Rattle.ab_term.specs.Abstraction as closing
use Rattle.ab_norm.specs.ab_store.specs.Trees.{tree_of, head_reading}
use Rattle.ab_norm.proofs.Frame.{if_ok}
use Rattle.ab_patterns.specs.Abstraction.{IsToldApart}
use Rattle.ab_patterns.proofs.Closed.{sunk_none}
use Rattle.ab_patterns.proofs.abstraction.close.Goals as goal

pub returns-clause-reads : goal.returns-clause-reads
returns-clause-reads c = if_ok c.close_names.result (λ r made types told.
    made types (All-cons (IsToldApart types c.args.store.now) c.args.name [] told (All-nil (IsToldApart types c.args.store.now)))
    ∙ ap (λ h. closing.close 0 h (tree_of types c.args.store.now c.args.term)) (sunk_none (head_reading types c.args.store.now c.args.name))) c.close_names.ensures.reads
