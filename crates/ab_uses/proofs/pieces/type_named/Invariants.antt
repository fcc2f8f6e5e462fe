use Rattle.std.proofs.Common.{◌≡◌}
use Rattle.ab_logic.specs.Worlds.{Holds, read}
use Rattle.ab_theory.specs.Pieces as spec
use Rattle.ab_theory.specs.Pieces.{pieces, behind, AllServe}
use Rattle.ab_uses.proofs.pieces.type_named.Given as goal

abbrev pub invariant-layers : goal.invariant-layers
invariant-layers l = record {
  held : Holds l.world l.rest;
  same : spec.type_named l.name (pieces l.left (read l.world l.rest)) ≡ spec.type_named l.fn.name (pieces l.fn.count (read l.fn.world l.fn.formula));
}

abbrev pub decreases-layers : goal.decreases-layers
decreases-layers l = l.rest.0
