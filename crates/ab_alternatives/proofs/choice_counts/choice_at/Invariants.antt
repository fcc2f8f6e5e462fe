use Rattle.std.specs.Prelude.{slice_get}
use Rattle.std.proofs.Common.{◌≡◌, drop}
use Rattle.ab_instances.specs.ListReadings.{names_read}
use Rattle.ab_alternatives.proofs.Placed.{all_choices, choices_from}
use Rattle.ab_alternatives.proofs.choice_counts.choice_at.Given as goal

abbrev pub invariant-loop-clause : goal.invariant-loop-clause
invariant-loop-clause l =
    let held = names_read l.world.types l.held in
    slice_get (all_choices l.world l.atom held) l.place ≡ slice_get (choices_from l.world l.atom held (drop l.clause-index l.clause-items)) l.left
