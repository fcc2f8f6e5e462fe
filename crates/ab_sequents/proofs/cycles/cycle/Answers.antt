use Rattle.std.proofs.Common.{sym, ap, subst}
use Rattle.ab_term.specs.Names.{IsPermutationTable}
use Rattle.ab_norm.specs.ab_types.specs.Ids.{type_of}
use Rattle.ab_norm.specs.Nominals.{pairs_of}
use Rattle.ab_formulas.proofs.Tables.{cycle_permutes}
use Rattle.ab_sequents.proofs.cycles.cycle.Goals as goal

pub returns-clause-table : goal.returns-clause-table
returns-clause-table c types d =
    subst (λ l. IsPermutationTable (pairs_of types l)) (sym c.from_vec.ensures)
    (subst IsPermutationTable (sym (c.in_ok-made.ensures.pairs types)) (cycle_permutes (type_of types c.args.ty) c.args.numbers.now d))
