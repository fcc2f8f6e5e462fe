use Rattle.std.proofs.Common.{◌∙◌}
use Rattle.ab_term.specs.Sameness.{same_number}
use Rattle.ab_term.proofs.InOrder.{one_by_one-lam}
use Rattle.ab_types.specs.Ids.{type_of}
use Rattle.ab_store.specs.Trees.{tree_of}
use Rattle.ab_store.specs.Reading.{pairs}
use Rattle.ab_store.proofs.Results.{if_ok}
use Rattle.ab_store.proofs.store.Store.lam.Goals as goal

pub add-requires-clause-facts : goal.add-requires-clause-facts
add-requires-clause-facts c = λ types. c.under_binder-facts.ensures _ _ _ (c.facts.ensures.tree types)

pub returns-clause-reads : goal.returns-clause-reads
returns-clause-reads c =
    if_ok c.add.result
    (λ t put types. put types ∙ one_by_one-lam same_number (pairs types c.args.self.now) (type_of types c.args.ty) c.args.hint (tree_of types c.args.self.now c.args.body))
    c.add.ensures.put
