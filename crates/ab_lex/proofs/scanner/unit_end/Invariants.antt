use Rattle.std.proofs.Common.{◌≡◌, ◌≢◌, ◌≤◌, ◌+◌, drop}
use Rattle.ab_lex.specs.declared.scanner.Mode.TheVariants.{Plain}
use Rattle.ab_lex.specs.Scanner.{past, depth}
use Rattle.ab_lex.proofs.scanner.unit_end.Given as goal

abbrev pub invariant-loop-i : goal.invariant-loop-i
invariant-loop-i l = record {
  same : past l.fn.mode l.bytes ≡ past l.mode (drop l.i l.bytes);
  inside : l.mode ≢ Plain;
  shallow : depth l.mode ≤ depth l.fn.mode + l.i;
}
