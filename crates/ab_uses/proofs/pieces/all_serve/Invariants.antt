use Rattle.std.proofs.Common.{◌↔◌, ◌≤◌, length, map, drop}
use Rattle.std.specs.Option.{option_map}
use Rattle.ab_logic.specs.Worlds.{Holds, read}
use Rattle.ab_theory.specs.Pieces.{pieces, AllServe}
use Rattle.ab_uses.proofs.pieces.all_serve.Given as goal

abbrev pub invariant-layers : goal.invariant-layers
invariant-layers l = record {
  held : Holds l.world l.rest;
  within : l.done ≤ length l.hypotheses;
  same : AllServe (pieces l.left (read l.world l.rest)) (map (option_map (read l.world)) (drop l.done l.hypotheses))
      ↔ AllServe (pieces l.fn.count (read l.fn.world l.fn.formula)) (map (option_map (read l.fn.world)) l.fn.hypotheses);
}

abbrev pub decreases-layers : goal.decreases-layers
decreases-layers l = l.rest.0
