use Rattle.std.proofs.Common.{◌≡◌, map, take}
use Rattle.std.specs.List.{All}
use Rattle.ab_term.specs.Names.{moved_by}
use Rattle.ab_norm.specs.Nominals.{nominal_of, pairs_of, HoldsNominal}
use Rattle.ab_search_paths.proofs.likeness.all_moved.Given as goal

abbrev pub invariant-loop-a : goal.invariant-loop-a
invariant-loop-a l = record {
  held : All (HoldsNominal l.types) l.list.items;
  reads : map (nominal_of l.types) l.list.items ≡ map (moved_by (pairs_of l.types l.pairs)) (map (nominal_of l.types) (take l.a-index l.names));
}
