use Rattle.std.proofs.Common.{take}
use Rattle.ab_proofcmd.proofs.Gathering.{GatheredBeside}
use Rattle.ab_proofcmd.proofs.goal_scopes.constants_beside.Given as goal

abbrev pub invariant-loop-term : goal.invariant-loop-term
invariant-loop-term l = GatheredBeside l.world l.goal (take l.term-index l.given) l.found.items
