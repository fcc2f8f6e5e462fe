use Rattle.std.proofs.Common.{take}
use Rattle.std.specs.List.{All}
use Rattle.ab_norm.specs.ab_types.specs.Entries.{Table}
use Rattle.ab_search_ways.proofs.Untouched.{IsPlain}
use Rattle.ab_search_ways.proofs.goals_left.is_touched.Given as goal

abbrev pub invariant-loop-id : goal.invariant-loop-id
invariant-loop-id l = (types : Table) → All (IsPlain types l.store) (take l.id-index l.goal.added.items)
