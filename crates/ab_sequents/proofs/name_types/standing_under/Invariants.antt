use Rattle.std.proofs.Common.{map, take}
use Rattle.ab_norm.specs.Nominals.{nominal_of}
use Rattle.ab_sequents.specs.NameTypes.{IsStanding}
use Rattle.ab_sequents.proofs.name_types.standing_under.Given as goal

abbrev pub invariant-loop-constant : goal.invariant-loop-constant
invariant-loop-constant l = IsStanding l.world.types l.numbers (map (nominal_of l.world.types) (take l.constant-index l.constant-items)) l.standing
