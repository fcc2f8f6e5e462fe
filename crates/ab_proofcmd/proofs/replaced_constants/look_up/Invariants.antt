use Rattle.std.proofs.Common.{◌≡◌, drop, map}
use Rattle.ab_norm.specs.Nominals.{nominal_of}
use Rattle.ab_syntax.specs.Commands.{instance_of}
use Rattle.ab_effects.specs.ProofCommands.{no_constant}
use Rattle.ab_proofcmd.proofs.replaced_constants.look_up.Given as goal

abbrev pub invariant-loop-instance : goal.invariant-loop-instance
invariant-loop-instance l =
    no_constant (map (nominal_of l.world.types) l.names) (map instance_of l.instances) ≡ no_constant (map (nominal_of l.world.types) l.names) (map instance_of (drop l.instance-index l.instances))
