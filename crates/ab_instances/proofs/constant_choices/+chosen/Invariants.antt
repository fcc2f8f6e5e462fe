use Rattle.std.proofs.Common.{◌≡◌, ◌+◌, ◌*◌, map, take, length}
use Rattle.std.specs.List.{All}
use Rattle.ab_norm.specs.ab_types.specs.Ids.{type_of}
use Rattle.ab_norm.specs.Nominals.{HoldsNominal}
use Rattle.ab_instances.specs.ListReadings.{names_read}
use Rattle.ab_instances.proofs.Chosen.{begun_with}
use Rattle.ab_unifiers.specs.Choices.{for_each}
use Rattle.ab_instances.proofs.constant_choices.+chosen.Given as goal

abbrev pub decreases-choose : goal.decreases-choose
decreases-choose l = 2 * length l.names.now

abbrev pub decreases-choose_after : goal.decreases-choose_after
decreases-choose_after l = 2 * length l.rest.now + 1

abbrev pub invariant-choose-loop-a : goal.invariant-choose-loop-a
invariant-choose-loop-a l = record {
  list : map (names_read l.types) l.list.items ≡ for_each (begun_with (map (type_of l.types) l.rest) (names_read l.types l.free) (names_read l.types l.held)) (names_read l.types (take l.a-index l.a-items));
  held : All (All (HoldsNominal l.types)) l.list.items;
}
