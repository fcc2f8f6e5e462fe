use Rattle.std.proofs.Common.{ℕ, ◌<◌}
use Rattle.ab_meaning.specs.Types.{PropFree}
use Rattle.ab_inference.specs.Freedom.{AreFree}
use Rattle.ab_inference.specs.Verdicts.{type_found}
use Rattle.ab_inference.proofs.decision.has_prop.Given as goal

abbrev pub invariant-loop-mark : goal.invariant-loop-mark
invariant-loop-mark l = AreFree l.types l.free × ((i : ℕ) → i < l.mark-index → PropFree (type_found l.types l.base l.found l.marks i))
