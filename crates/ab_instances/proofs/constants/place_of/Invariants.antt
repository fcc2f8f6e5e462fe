use Rattle.std.proofs.Common.{◌≡◌, ℕ, ◌<◌, nat_lt, get_or, false}
use Rattle.ab_norm.specs.declared.nominal.Nominal.{Nominal}
use Rattle.ab_instances.proofs.constants.place_of.Given as goal

abbrev pub invariant-loop-place : goal.invariant-loop-place
invariant-loop-place l = (k : ℕ) (d : Nominal) → k < l.place → nat_lt l.a.number (get_or l.found k d).number ≡ false
