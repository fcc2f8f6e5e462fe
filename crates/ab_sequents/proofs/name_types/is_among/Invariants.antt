use Rattle.std.proofs.Common.{◌≡◌, ◌≢◌, ℕ, ◌<◌, get_or}
use Rattle.ab_sequents.proofs.name_types.is_among.Given as goal

abbrev pub invariant-loop-one : goal.invariant-loop-one
invariant-loop-one l = (k d : ℕ) → k < l.one-index → get_or l.numbers k d ≢ l.number
