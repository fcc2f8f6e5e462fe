use Rattle.ab_norm.specs.declared.term_walks.Change.TheVariants.{Rename}
use Rattle.ab_norm.proofs.Changed.{remembers_none}
use Rattle.ab_norm.proofs.permutations.rename.Goals as goal

pub walk-requires-clause-memo : goal.walk-requires-clause-memo
walk-requires-clause-memo c = remembers_none c.args.types.now c.args.store.now (Rename c.args.pairs) c.new-memo.result c.new-memo.ensures

pub returns-clause-adds : goal.returns-clause-adds
returns-clause-adds c =
    let adds = c.walk.ensures.adds in
    record { before = adds.before; cells = adds.cells; typed = adds.typed c.args.types.now (c.requires.types, c.requires.pairs) c.requires.store }
