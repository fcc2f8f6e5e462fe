use Rattle.ab_run.proofs.FirstLines.{IsInside}
use Rattle.ab_run.proofs.output.first_line_length.Given as goal

abbrev pub invariant-loop-place : goal.invariant-loop-place
invariant-loop-place l = IsInside l.text l.place
