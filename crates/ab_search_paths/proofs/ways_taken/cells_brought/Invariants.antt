use Rattle.std.specs.List.{All}
use Rattle.ab_norm.specs.ab_types.specs.Entries.{Table}
use Rattle.ab_norm.specs.ab_store.specs.Trees.{Contents, HoldsCell}
use Rattle.ab_walk.specs.ab_next_ways.specs.ab_search_ways.specs.Answers.{HoldsValue}
use Rattle.ab_search_paths.proofs.ways_taken.cells_brought.Given as goal

abbrev pub invariant-loop-place : goal.invariant-loop-place
invariant-loop-place l = (types : Table) (store : Contents) → All (HoldsValue types store) l.after.answer.items → All (HoldsCell store) l.list.items
