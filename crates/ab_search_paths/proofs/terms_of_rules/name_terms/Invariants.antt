use Rattle.std.specs.List.{All}
use Rattle.ab_logic.specs.declared.world.World.{World}
use Rattle.ab_search_paths.specs.Parts.{HoldsPathFrom, HoldsNameTerm}
use Rattle.ab_search_paths.proofs.terms_of_rules.name_terms.Given as goal

abbrev pub invariant-loop-one : goal.invariant-loop-one
invariant-loop-one l = (w : World) → HoldsPathFrom w l.rule l.behind → All (HoldsNameTerm w) l.names.items
