use Rattle.std.proofs.Common.{◌≡◌, take}
use Rattle.ab_unify.specs.States.{numbered_from}
use Rattle.ab_unify.proofs.queues.number_equations.Given as goal

abbrev pub invariant-loop-place : goal.invariant-loop-place
invariant-loop-place l = l.all.items ≡ numbered_from 0 (take l.place l.equations)
