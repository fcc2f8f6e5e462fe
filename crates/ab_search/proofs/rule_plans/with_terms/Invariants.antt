use Rattle.std.specs.List.{All}
use Rattle.ab_logic.specs.Worlds.{Holds}
use Rattle.ab_logic.specs.declared.world.World.{World}
use Rattle.ab_search.specs.RulePlans.{NamesTerm}
use Rattle.ab_search.proofs.rule_plans.with_terms.Given as goal

abbrev pub invariant-loop-name : goal.invariant-loop-name
invariant-loop-name l = (w : World) → All (Holds w) l.terms → All (NamesTerm w) l.list.items
