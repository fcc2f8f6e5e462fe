use Rattle.std.proofs.Common.{◌≡◌}
use Rattle.ab_proofcmd.proofs.Named.{nothings}
use Rattle.ab_proofcmd.proofs.backchaining.aim_at.Given as goal

abbrev pub invariant-loop : goal.invariant-loop
invariant-loop l = l.hypotheses.items ≡ nothings l.counter
