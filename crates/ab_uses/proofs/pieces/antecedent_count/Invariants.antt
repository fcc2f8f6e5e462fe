use Rattle.std.proofs.Common.{◌≡◌, ◌+◌, ◌≤◌}
use Rattle.ab_logic.specs.Worlds.{Holds, read}
use Rattle.ab_theory.specs.Pieces as spec
use Rattle.ab_theory.specs.Pieces.{pieces, behind, AllServe}
use Rattle.ab_uses.proofs.pieces.antecedent_count.Given as goal

abbrev pub invariant-layers : goal.invariant-layers
invariant-layers l = record {
  held : Holds l.world l.rest;
  counted : l.count + spec.antecedent_count (read l.world l.rest) ≡ spec.antecedent_count (read l.fn.world l.fn.formula);
  bounded : l.count + l.rest.0 ≤ l.fn.formula.0;
}

abbrev pub decreases-layers : goal.decreases-layers
decreases-layers l = l.rest.0
