use Rattle.std.proofs.Common.{◌≡◌, ℕ, ◌<◌, false}
use Rattle.ab_inference.specs.Verdicts.{IsOpenAt}
use Rattle.ab_inference.proofs.decision.first_open.Given as goal

abbrev pub invariant-loop-mark : goal.invariant-loop-mark
invariant-loop-mark l = (i : ℕ) → i < l.mark-index → IsOpenAt l.base l.found l.marks i ≡ false
