use Rattle.std.specs.Prelude.{All}
use Rattle.std.proofs.Common.{◌≡◌, drop, map}
use Rattle.ab_norm.specs.Nominals.{nominal_of, HoldsNominal}
use Rattle.ab_norm.specs.ab_types.specs.Entries.{Table}
use Rattle.ab_effects.specs.ProofCommands.{constant_numbered}
use Rattle.ab_proofcmd.proofs.replaced_constants.constant_numbered.Given as goal

abbrev pub invariant-loop-constant : goal.invariant-loop-constant
invariant-loop-constant l = (types : Table) → constant_numbered (map (nominal_of types) l.names) l.number ≡ constant_numbered (map (nominal_of types) (drop l.constant-index l.names)) l.number
