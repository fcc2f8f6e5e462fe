use Rattle.std.proofs.Common.{◌≡◌, ◌≤◌, ◌+◌, drop}
use Rattle.ab_lex.specs.Scanner.{blank_from, depth}
use Rattle.ab_lex.proofs.scanner.ends_blank.Given as goal

abbrev pub invariant-loop-byte : goal.invariant-loop-byte
invariant-loop-byte l = record {
  same : blank_from l.fn.scan l.bytes ≡ blank_from l.scan (drop l.byte-index l.bytes);
  shallow : depth l.scan.mode ≤ depth l.fn.scan.mode + l.byte-index;
}
