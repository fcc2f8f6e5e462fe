use Rattle.std.proofs.Common.{◌≡◌}
use Rattle.ab_logic.specs.Worlds.{Holds, read}
use Rattle.ab_theory.specs.Pieces.{behind}
use Rattle.ab_uses.proofs.pieces.formula_behind.Given as goal

abbrev pub invariant-layers : goal.invariant-layers
invariant-layers l = record {
  held : Holds l.world l.rest;
  same : behind l.left (read l.world l.rest) ≡ behind l.fn.count (read l.fn.world l.fn.formula);
}

abbrev pub decreases-layers : goal.decreases-layers
decreases-layers l = l.rest.0
