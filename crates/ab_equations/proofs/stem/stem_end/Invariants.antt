use Rattle.std.proofs.Common.{ℕ, ◌<◌, ◌≤◌, length, get_or}
use Rattle.ab_formulas.specs.NewNames.{IsDigit}
use Rattle.ab_formulas.proofs.Digits.{DigitsFrom}
use Rattle.ab_equations.proofs.stem.stem_end.Given as goal

abbrev pub invariant-loop-end : goal.invariant-loop-end
invariant-loop-end l = DigitsFrom l.bytes l.end

abbrev pub decreases-loop-end : goal.decreases-loop-end
decreases-loop-end l = l.end
