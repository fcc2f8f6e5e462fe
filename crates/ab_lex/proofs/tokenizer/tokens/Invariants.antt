use Rattle.std.proofs.Common.{◌-◌, length}
use Rattle.ab_lex.proofs.Reading.{Reading}
use Rattle.ab_lex.proofs.tokenizer.tokens.Given as goal

abbrev pub invariant-loop-place : goal.invariant-loop-place
invariant-loop-place l = Reading l.bytes l.place l.tokens.items

abbrev pub decreases-loop-place : goal.decreases-loop-place
decreases-loop-place l = length l.bytes - l.place
