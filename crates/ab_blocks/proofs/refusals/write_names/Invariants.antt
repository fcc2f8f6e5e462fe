use Rattle.std.proofs.Common.{◌≡◌, ◌++◌, drop}
use Rattle.ab_blocks.specs.Blocks.{all_named}
use Rattle.ab_blocks.proofs.refusals.write_names.Given as goal

abbrev pub invariant-names : goal.invariant-names
invariant-names l = l.out.items ++ all_named (drop l.name-index l.names) ≡ l.fn.out.items ++ all_named l.names
