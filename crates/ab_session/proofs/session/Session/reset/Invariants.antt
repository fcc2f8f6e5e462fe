use Rattle.std.specs.Prelude.{◌≡◌, ◌+◌, length}
use Rattle.ab_session.specs.Origins.{Precedes}
use Rattle.ab_session.proofs.session.Session.reset.Given as goal

abbrev pub invariant-loop : goal.invariant-loop
invariant-loop g l =
    Precedes l.self l.initial.self
    × (l.steps + length l.self.world.types + length l.self.world.additions ≡ l.initial.steps + length l.initial.self.world.types + length l.initial.self.world.additions)

abbrev pub decreases-loop : goal.decreases-loop
decreases-loop g l = length l.self.past
