use Rattle.std.proofs.Common.{take}
use Rattle.ab_proofcmd.proofs.Gathering.{Gathered}
use Rattle.ab_proofcmd.proofs.goal_scopes.constants_of.Given as goal

abbrev pub invariant-loop-h : goal.invariant-loop-h
invariant-loop-h l = Gathered l.world l.goal (take l.h-index l.h-items) l.found.items
