use Rattle.std.proofs.Common.{◌≡◌, ◌+◌, ◌*◌, ◌-◌, drop, length}
use Rattle.std.specs.List.{All}
use Rattle.ab_term.specs.Names.{support_of_all}
use Rattle.ab_norm.specs.Nominals.{HoldsNominal}
use Rattle.ab_norm.proofs.Bounds.{ids_bound}
use Rattle.ab_instances.specs.ListReadings.{names_read, given_at}
use Rattle.ab_instances.specs.ConstantOrder.{all_noted, AreNoted}
use Rattle.ab_instances.proofs.constants.+noting.Given as goal

abbrev pub decreases-note : goal.decreases-note
decreases-note l = 3 * l.id.0 + 2

abbrev pub decreases-note_node : goal.decreases-note_node
decreases-note_node l = 3 * l.id.0 + 1

abbrev pub decreases-note_all : goal.decreases-note_all
decreases-note_all l = 3 * ids_bound l.ids.now

abbrev pub invariant-note_all-loop-done : goal.invariant-note_all-loop-done
invariant-note_all-loop-done l = record {
  notes : names_read l.types l.found.items ≡ all_noted (support_of_all (given_at l.types l.store (drop (length l.ids - l.done) l.ids))) (names_read l.types l.initial.found.items);
  held : All (HoldsNominal l.types) l.found.items;
  seen : AreNoted l.types l.store (names_read l.types l.found.items) l.seen;
}
