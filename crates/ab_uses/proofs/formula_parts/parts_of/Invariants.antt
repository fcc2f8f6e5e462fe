use Rattle.std.proofs.Common.{◌≡◌, ◌++◌, map}
use Rattle.std.specs.List.{All}
use Rattle.ab_logic.specs.Worlds.{Holds, read}
use Rattle.ab_theory.specs.Pieces.{pieces, parts}
use Rattle.ab_uses.specs.GivenReadings.{given_of}
use Rattle.ab_uses.specs.UseCells.{HoldsPart, parts_read}
use Rattle.ab_uses.specs.GivenParts.{IsGiven}
use Rattle.ab_uses.proofs.formula_parts.parts_of.Given as goal

abbrev pub invariant-layers : goal.invariant-layers
invariant-layers l = record {
  held : Holds l.world l.rest;
  spare : All (IsGiven l.world) l.spare.items;
  list : All (HoldsPart l.world.types l.world.store) l.list.items;
  same : parts_read l.world.types l.world.store l.list.items ++ parts (map (given_of l.world) l.spare.items) (pieces l.left (read l.world l.rest))
      ≡ parts (map (given_of l.world) l.fn.given) (pieces l.fn.count (read l.world l.fn.formula));
}

abbrev pub decreases-layers : goal.decreases-layers
decreases-layers l = l.rest.0
