use Rattle.std.proofs.Common.{◌≡◌, ◌++◌, ◌+◌, map, drop}
use Rattle.ab_states.specs.ab_kernel.specs.Layout.{goals_of}
use Rattle.ab_formulas.specs.NamedGoals.{named}
use Rattle.ab_blocks.specs.Blocks.{others_from}
use Rattle.ab_blocks.proofs.goals.write_others.Given as goal

abbrev pub invariant-loop-place : goal.invariant-loop-place
invariant-loop-place l =
    l.out.items ++ others_from (l.place + 1) (drop l.place (map named (goals_of l.world l.proof)))
    ≡ l.fn.out.items ++ others_from 2 (drop 1 (map named (goals_of l.world l.proof)))
