use Rattle.std.proofs.Common.{sym, ◌∙◌, ap}
use Rattle.ab_term.specs.Names as tree
use Rattle.ab_norm.specs.ab_store.proofs.Growing.{unbound_reads}
use Rattle.ab_norm.specs.Nominals.{pairs_of}
use Rattle.ab_logic.specs.Worlds.{read}
use Rattle.ab_steps.specs.ab_kernel.specs.ab_rules.proofs.Adding.{adds_typed}
use Rattle.ab_hypothesis.proofs.Changed.{in_ok}
use Rattle.ab_hypothesis.proofs.exchange_steps.permuted_formula.Goals as goal

pub returns-clause-adds : goal.returns-clause-adds
returns-clause-adds c = adds_typed _ _ _ _ c.requires.world c.permute.ensures.adds

pub returns-clause-reads : goal.returns-clause-reads
returns-clause-reads c =
    let w = c.args.world.now in
    let adds = adds_typed _ _ _ _ c.requires.world c.permute.ensures.adds in
    in_ok c.permute.result
    (λ r reads.
    sym (unbound_reads c.permute.new.store adds.grows.world.unbound w.types r)
    ∙ reads
    ∙ ap (tree.permute (pairs_of w.types c.in_ok-by.by.pairs)) (unbound_reads w.store c.requires.world.unbound w.types c.args.formula)
    ∙ ap (λ ps. tree.permute ps (read w c.args.formula)) (c.in_ok-by.ensures.pairs w.types))
    c.permute.ensures.reads

pub permute-requires-clause-table : goal.permute-requires-clause-table
permute-requires-clause-table c = c.in_ok-by.ensures.table c.args.world.now.types c.requires.different
