use Rattle.std.specs.Option.{option_map}
use Rattle.std.specs.Prelude.{drop}
use Rattle.std.proofs.Common.{◌≡◌, map}
use Rattle.ab_logic.specs.Worlds.{read, declarations_of}
use Rattle.ab_sequents.specs.Kinds.{are_plain, signs_by}
use Rattle.ab_sequents.proofs.PartSizes.{also}
use Rattle.ab_sequents.proofs.places.are_unmarked.Given as goal

abbrev pub invariant-loop-index : goal.invariant-loop-index
invariant-loop-index l =
    also l.unmarked (signs_by l.kind (declarations_of l.world) (drop l.index l.places) (drop l.index (map (read l.world) l.parts)))
    ≡ option_map are_plain (signs_by l.kind (declarations_of l.world) l.places (map (read l.world) l.parts))
