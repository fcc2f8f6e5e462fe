use Rattle.std.proofs.Common.{◌≡◌, ◌≤◌, ◌+◌, drop}
use Rattle.ab_lex.specs.Scanner.{behind, run, depth}
use Rattle.ab_lex.proofs.scanner.command_end.Given as goal

abbrev pub invariant-loop-i : goal.invariant-loop-i
invariant-loop-i l = record {
  same : behind l.fn.scan.mode l.bytes ≡ behind l.scan.mode (drop l.i l.bytes);
  runs : run l.fn.scan l.bytes ≡ run l.scan (drop l.i l.bytes);
  shallow : depth l.scan.mode ≤ depth l.fn.scan.mode + l.i;
}
