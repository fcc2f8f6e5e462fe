use Rattle.ab_norm.proofs.Frame.{if_ok}
use Rattle.ab_uses.proofs.OverConstants.{given_reads}
use Rattle.ab_uses.proofs.variables.given_constants.Goals as goal

pub returns-clause-tree : goal.returns-clause-tree
returns-clause-tree c =
    let made = c.in_ok-args.ensures in
    if_ok c.eta_given.result (λ r e. given_reads c.args.types.now c.args.store.now c.as_terms.new.store made.adds.cells c.args.cell c.args.ty c.args.names.now c.in_ok-args.args.items c.requires.over made.trees _ e) c.eta_given.ensures.tree
