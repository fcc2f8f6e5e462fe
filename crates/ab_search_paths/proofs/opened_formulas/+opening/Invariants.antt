use Rattle.std.proofs.Common.{◌+◌, ◌*◌}
use Rattle.std.specs.List.{All}
use Rattle.ab_norm.proofs.Bounds.{ids_bound}
use Rattle.ab_logic.specs.Worlds.{Holds}
use Rattle.ab_search_paths.specs.MoreTerms.{GotTerms}
use Rattle.ab_search_paths.proofs.opened_formulas.+opening.Given as goal

abbrev pub decreases-open_formula : goal.decreases-open_formula
decreases-open_formula l = 2 * l.formula.0 + 1

abbrev pub decreases-opened_parts : goal.decreases-opened_parts
decreases-opened_parts l = 2 * ids_bound l.args.now

abbrev pub invariant-opened_parts-loop-part : goal.invariant-opened_parts-loop-part
invariant-opened_parts-loop-part l = record {
  held : All (Holds l.world) l.list.items;
  got : GotTerms l.fn.world l.world;
}
