use Rattle.std.specs.Prelude.{◌≡◌, ◌+◌, length}
use Rattle.ab_search.proofs.opened_hypotheses.wait_for.Given as goal

abbrev pub invariant-loop-behind : goal.invariant-loop-behind
invariant-loop-behind l = length l.waiting.items ≡ length l.fn.waiting.items + l.behind
