use Rattle.std.proofs.Common.{◌≡◌, length}
use Rattle.std.specs.List.{All}
use Rattle.ab_logic.specs.Worlds.{Holds}
use Rattle.ab_search_paths.specs.MoreTerms.{GotTerms}
use Rattle.ab_search_paths.proofs.carried_terms.all_permuted.Given as goal

abbrev pub invariant-loop-term : goal.invariant-loop-term
invariant-loop-term l = record {
  held : All (Holds l.world) l.list.items;
  count : length l.list.items ≡ l.term-index;
  got : GotTerms l.fn.world l.world;
}
