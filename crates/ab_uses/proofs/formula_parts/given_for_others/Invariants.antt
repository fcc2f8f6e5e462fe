use Rattle.std.proofs.Common.{◌≡◌, map, take}
use Rattle.std.specs.List.{All}
use Rattle.ab_theory.specs.Pieces.{given_otherwise}
use Rattle.ab_uses.specs.GivenReadings.{given_of}
use Rattle.ab_uses.specs.GivenParts.{IsGiven}
use Rattle.ab_uses.proofs.formula_parts.given_for_others.Given as goal

abbrev pub invariant-loop-term : goal.invariant-loop-term
invariant-loop-term l = record {
  others : map (given_of l.world) l.others.items ≡ given_otherwise l.name (map (given_of l.world) (take l.term-index l.given));
  held : All (IsGiven l.world) l.others.items;
}
