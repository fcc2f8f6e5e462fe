use Rattle.std.proofs.Common.{◌≡◌, ◌++◌, replicate}
use Rattle.ab_print.proofs.shape_bytes.write_signs.Given as goal

abbrev pub invariant-loop : goal.invariant-loop
invariant-loop l = l.out.items ≡ l.initial.out.items ++ replicate l.counter l.sign
