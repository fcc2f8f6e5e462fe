use Rattle.std.proofs.Common.{◌≡◌, drop, map}
use Rattle.ab_syntax.specs.Commands.{instance_of}
use Rattle.ab_effects.specs.FormulaUses.{given_twice}
use Rattle.ab_proofcmd.proofs.given_terms.is_given_twice.Given as goal

abbrev pub invariant-loop-place : goal.invariant-loop-place
invariant-loop-place l = given_twice (map instance_of l.instances) ≡ given_twice (map instance_of (drop l.place l.instances))
