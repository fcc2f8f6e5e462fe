use Rattle.std.proofs.Common.{◌≢◌, take}
use Rattle.std.specs.List.{All}
use Rattle.ab_norm.proofs.equality_up_to_names.first_meeting.Given as goal

abbrev pub invariant-loop-known : goal.invariant-loop-known
invariant-loop-known l = All (λ d. (d.from ≢ l.pair.from) × (d.to ≢ l.pair.to)) (take l.known-index l.decided)
