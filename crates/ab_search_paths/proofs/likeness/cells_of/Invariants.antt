use Rattle.std.proofs.Common.{◌≡◌, map, take}
use Rattle.ab_search_paths.specs.declared.likeness.StandIn.{StandIn}
use Rattle.ab_search_paths.proofs.likeness.cells_of.Given as goal

abbrev pub invariant-loop-one : goal.invariant-loop-one
invariant-loop-one l = l.list.items ≡ map (λ (s : StandIn). s.cell) (take l.one-index l.stand_ins)
