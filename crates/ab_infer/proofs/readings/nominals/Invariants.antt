use Rattle.std.proofs.Common.{◌≡◌, ℕ, ◌+◌, ◌<◌, length, get_or}
use Rattle.ab_norm.specs.ab_store.specs.declared.node.Head.TheVariants.{Nominal}
use Rattle.ab_inference.specs.Assignments.{settled_at}
use Rattle.ab_infer.specs.NormalTerms.{head_at}
use Rattle.ab_infer.proofs.readings.nominals.Given as goal

abbrev pub invariant-loop-j : goal.invariant-loop-j
invariant-loop-j l = record {
  len : length l.heads.items ≡ l.j;
  heads : (k : ℕ) → k < l.j → head_at l.heads.items k ≡ Nominal (get_or l.numbers k 0) (settled_at l.found (l.base + k)).ty;
}
