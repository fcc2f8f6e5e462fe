use Rattle.std.proofs.Common.{◌≡◌, take}
use Rattle.ab_uses.proofs.formula_parts.copy_given.Given as goal

abbrev pub invariant-loop-term : goal.invariant-loop-term
invariant-loop-term l = l.list.items ≡ take l.term-index l.given
