use Rattle.std.specs.List.{All}
use Rattle.std.proofs.Common.{◌≡◌}
use Rattle.ab_logic.specs.Worlds.{Holds}
use Rattle.ab_logic.specs.declared.world.World.{World}
use Rattle.ab_search_paths.specs.Parts.{HoldsAssumed}
use Rattle.ab_search.proofs.rule_plans.formula_and_terms.Given as goal

abbrev pub invariant-loop-name : goal.invariant-loop-name
invariant-loop-name l = record {
  held : (w : World) → HoldsAssumed w l.found → All (Holds w) l.terms.items;
  names : l.name-items ≡ l.found.names.items;
}
