use Rattle.std.proofs.Common.{◌≡◌, map, take}
use Rattle.std.specs.List.{All}
use Rattle.ab_term.proofs.Permuting.{exchange}
use Rattle.ab_norm.specs.Nominals.{nominal_of, HoldsNominal}
use Rattle.ab_instances.specs.ListReadings.{names_read}
use Rattle.ab_search_ways.proofs.permutations.exchange_all.Given as goal

abbrev pub invariant-loop-a : goal.invariant-loop-a
invariant-loop-a l = record {
  list : names_read l.types l.list.items ≡ map (exchange (nominal_of l.types l.x) (nominal_of l.types l.y)) (names_read l.types (take l.a-index l.names));
  held : All (HoldsNominal l.types) l.list.items;
}
