use Rattle.std.proofs.Common.{◌≡◌, ◌++◌, []}
use Rattle.ab_cert.specs.Appending.{Extends}
use Rattle.ab_cert.specs.Writing.{row_pieces, line_behind, led, stack_pieces}
use Rattle.ab_cert.proofs.Writing.{weight}
use Rattle.ab_cert.proofs.writer.write_line.Given as goal

abbrev pub invariant-stretches : goal.invariant-stretches
invariant-stretches l = record {
  written : l.out.items ++ led (stack_pieces l.stack.items []) ≡ l.fn.out.items ++ line_behind (row_pieces l.fn.row);
  kept : Extends l.fn.out.items l.out.items;
}

abbrev pub decreases-stretches : goal.decreases-stretches
decreases-stretches l = weight l.stack.items
