use Rattle.std.proofs.Common.{◌≡◌, map, drop}
use Rattle.ab_theory.specs.Pieces as spec
use Rattle.ab_uses.specs.GivenReadings.{given_of}
use Rattle.ab_uses.proofs.formula_parts.given_for.Given as goal

abbrev pub invariant-loop-term : goal.invariant-loop-term
invariant-loop-term l = spec.given_for l.name (map (given_of l.world) (drop l.term-index l.given)) ≡ spec.given_for l.name (map (given_of l.world) l.given)
