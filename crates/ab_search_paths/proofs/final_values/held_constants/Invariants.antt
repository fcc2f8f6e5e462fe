use Rattle.std.specs.List.{All}
use Rattle.ab_norm.specs.Nominals.{HoldsNominal}
use Rattle.ab_search_paths.proofs.final_values.held_constants.Given as goal

abbrev pub invariant-loop-frame : goal.invariant-loop-frame
invariant-loop-frame l = All (HoldsNominal l.types) l.held.items
