use Rattle.std.proofs.Common.{◌≡◌, drop, map}
use Rattle.ab_syntax.specs.Commands.{instance_of}
use Rattle.ab_logic.specs.Worlds.{read}
use Rattle.ab_theory.specs.Pieces.{pieces}
use Rattle.ab_effects.specs.FormulaUses.{strange}
use Rattle.ab_proofcmd.proofs.given_terms.look_up.Given as goal

abbrev pub invariant-loop-instance : goal.invariant-loop-instance
invariant-loop-instance l =
    strange (pieces l.count (read l.world l.formula)) (map instance_of l.instances) ≡ strange (pieces l.count (read l.world l.formula)) (map instance_of (drop l.instance-index l.instances))
