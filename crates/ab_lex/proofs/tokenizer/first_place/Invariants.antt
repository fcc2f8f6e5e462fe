use Rattle.std.proofs.Common.{◌-◌, length}
use Rattle.ab_lex.proofs.Beginning.{Skipped}
use Rattle.ab_lex.proofs.tokenizer.first_place.Given as goal

abbrev pub invariant-loop-place : goal.invariant-loop-place
invariant-loop-place l = Skipped l.bytes l.place

abbrev pub decreases-loop-place : goal.decreases-loop-place
decreases-loop-place l = length l.bytes - l.place
