use Rattle.std.proofs.Common.{◌≡◌, ◌+◌, drop}
use Rattle.ab_lex.specs.Reader.{tail_size}
use Rattle.ab_lex.proofs.tokenizer.word_tail.Given as goal

abbrev pub invariant-loop-i : goal.invariant-loop-i
invariant-loop-i l = tail_size l.bytes ≡ l.i + tail_size (drop l.i l.bytes)
