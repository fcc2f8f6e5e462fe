use Rattle.std.specs.List.{All}
use Rattle.ab_logic.specs.Worlds.{Holds}
use Rattle.ab_search_paths.specs.MoreTerms.{GotTerms}
use Rattle.ab_search.proofs.unfolding_steps.terms_for.Given as goal

abbrev pub invariant-loop-place : goal.invariant-loop-place
invariant-loop-place l = record {
  held : All (Holds l.world) l.list.items;
  got : GotTerms l.fn.world l.world;
}
