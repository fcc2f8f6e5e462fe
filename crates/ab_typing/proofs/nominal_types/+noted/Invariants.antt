use Rattle.std.proofs.Common.{◌+◌, ◌*◌, map, take, true}
use Rattle.ab_store.specs.Trees.{tree_of}
use Rattle.ab_formulas.specs.GoalTerms.{names_of}
use Rattle.ab_typing.specs.NominalTypes.{Notes}
use Rattle.ab_typing.proofs.Bounds.{ids_bound}
use Rattle.ab_typing.proofs.nominal_types.+noted.Given as goal

abbrev pub decreases-note : goal.decreases-note
decreases-note l = 3 * l.id.0 + 2

abbrev pub decreases-note_node : goal.decreases-note_node
decreases-note_node l = 3 * l.id.0 + 1

abbrev pub decreases-note_all : goal.decreases-note_all
decreases-note_all l = 3 * ids_bound l.ids.now

abbrev pub invariant-note_all-loop-id : goal.invariant-note_all-loop-id
invariant-note_all-loop-id l = Notes l.types l.store l.initial.known l.known (names_of (map (tree_of l.types l.store) (take l.id-index l.ids))) true
