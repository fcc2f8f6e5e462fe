use Rattle.std.specs.List.{All}
use Rattle.ab_logic.specs.declared.world.World.{World}
use Rattle.ab_search_paths.specs.Paths.{IsTermIn}
use Rattle.ab_search_paths.specs.Parts.{HoldsPathFrom}
use Rattle.ab_search_paths.proofs.terms_of_rules.terms_given.Given as goal

abbrev pub invariant-loop-place : goal.invariant-loop-place
invariant-loop-place l = (w : World) → HoldsPathFrom w l.rule l.behind → All (IsTermIn w) l.terms.items
