use Rattle.std.proofs.Common.{◌≡◌, ◌+◌, ◌*◌, drop, length}
use Rattle.std.specs.Prelude.{slice_get}
use Rattle.ab_norm.specs.Nominals.{nominal_of}
use Rattle.ab_instances.specs.ListReadings.{names_read}
use Rattle.ab_search_ways.specs.MapSteps.{images_beginning}
use Rattle.ab_search_ways.proofs.constant_maps.+first.Given as goal

abbrev pub decreases-first_images : goal.decreases-first_images
decreases-first_images l = 2 * length l.names.now

abbrev pub decreases-first_beginning : goal.decreases-first_beginning
decreases-first_beginning l = 2 * length l.rest.now + 1

abbrev pub invariant-first_beginning-loop-a : goal.invariant-first_beginning-loop-a
invariant-first_beginning-loop-a l =
    slice_get (images_beginning (nominal_of l.types l.first) (names_read l.types l.rest) (names_read l.types l.free) (names_read l.types (drop l.a-index l.candidates))) 0
    ≡ slice_get (images_beginning (nominal_of l.types l.first) (names_read l.types l.rest) (names_read l.types l.free) (names_read l.types l.candidates)) 0
