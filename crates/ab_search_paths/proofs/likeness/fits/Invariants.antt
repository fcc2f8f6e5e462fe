use Rattle.std.proofs.Common.{take}
use Rattle.std.specs.List.{All}
use Rattle.ab_search_paths.specs.Paths.{IsBeside}
use Rattle.ab_search_paths.proofs.likeness.fits.Given as goal

abbrev pub invariant-loop-other : goal.invariant-loop-other
invariant-loop-other l = All (IsBeside l.world l.one) (take l.other-index l.stand_ins)
