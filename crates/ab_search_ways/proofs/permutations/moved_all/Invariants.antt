use Rattle.std.proofs.Common.{◌≡◌, ◌-◌, map, drop, length}
use Rattle.std.specs.List.{All}
use Rattle.ab_term.proofs.Permuting.{moved}
use Rattle.ab_norm.specs.Nominals.{HoldsNominal}
use Rattle.ab_instances.specs.ListReadings.{names_read}
use Rattle.ab_search_ways.proofs.permutations.moved_all.Given as goal

abbrev pub invariant-loop-done : goal.invariant-loop-done
invariant-loop-done l = record {
  list : names_read l.types l.now.items ≡ map (moved (names_read l.types (drop (length l.names - l.done) l.names)) (names_read l.types (drop (length l.names - l.done) l.targets))) (names_read l.types l.all);
  held : All (HoldsNominal l.types) l.now.items;
  as_many : length l.now.items ≡ length l.all;
}
