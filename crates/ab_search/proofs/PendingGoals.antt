-- Where one of the goals is closed.
use Rattle.std.proofs.Common.{◌≡◌, ℕ, ◌+◌, ◌≤◌, ap, subst, arith}
use Rattle.ab_logic.specs.declared.world.World.{World}
use Rattle.ab_theory.specs.Derivations.{History, open_goals}
use Rattle.ab_steps.specs.ab_kernel.specs.Layout.{Held, IsProof}
use Rattle.ab_steps.specs.Progress.{Follows}
use Rattle.ab_steps.proofs.Following.{as_before}
use Rattle.ab_search.specs.GoalCounts.{GaveWayTo, FirstGaveWay}
use Rattle.ab_search.proofs.Counting.{among, gave_before}

-- one goal less stands then
pub one_less : (w v : World) (p q : Held) (place k : ℕ) → place ≤ k → GaveWayTo w p v q place 0 → FirstGaveWay w p v q (k + 1) k
one_less w v p q place k l gave =
    let same : k + 0 ≡ k = omega arith in
    subst (λ n. FirstGaveWay w p v q (k + 1) n) same (among w v p q place k 0 l gave)

-- the same, where nothing was done before
pub less_behind : (w v u : World) (p q r : Held) (place k : ℕ) → place ≤ k → IsProof w p → Follows w p v q → q ≡ p → GaveWayTo v q u r place 0 → FirstGaveWay w p u r (k + 1) k
less_behind w v u p q r place k l proof f same gave =
    one_less w u p r place k l (gave_before w v u p q r place 0 (ap (λ (h : History). open_goals h.tree) (as_before w v p q f.grows proof same)) gave)
