use Rattle.std.proofs.Common.{◌≡◌, drop}
use Rattle.ab_term.specs.Names.{moved_by}
use Rattle.ab_norm.specs.ab_types.specs.Entries.{Table}
use Rattle.ab_norm.specs.ab_types.specs.Sound.{IsTable}
use Rattle.ab_norm.specs.Nominals.{nominal_of, pairs_of, HoldsNominal, HoldsPairs}
use Rattle.ab_search_paths.proofs.likeness.moved_constant.Given as goal

-- what the rest of the pairs makes of it is the answer
abbrev pub invariant-loop-pair : goal.invariant-loop-pair
invariant-loop-pair l = (types : Table) → IsTable types → HoldsPairs types l.pairs → HoldsNominal types l.a →
    moved_by (pairs_of types (drop l.pair-index l.pairs)) (nominal_of types l.a) ≡ moved_by (pairs_of types l.pairs) (nominal_of types l.a)
