use Rattle.std.proofs.Common.{◌≢◌, ◌-◌, drop, length}
use Rattle.std.specs.List.{All}
use Rattle.ab_patterns.proofs.abstraction.behind.Given as goal

-- none of those behind is the name
abbrev pub invariant-loop-done : goal.invariant-loop-done
invariant-loop-done l = All (λ h. h ≢ l.name) (drop (length l.names - l.done) l.names)
