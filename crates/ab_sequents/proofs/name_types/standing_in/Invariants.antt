use Rattle.std.proofs.Common.{◌++◌, map, take}
use Rattle.ab_term.specs.Names.{support}
use Rattle.ab_logic.specs.SequentReadings.{hypothesis_of}
use Rattle.ab_formulas.specs.Sequents.{names_of, formulas}
use Rattle.ab_logic.specs.Worlds.{read}
use Rattle.ab_sequents.specs.NameTypes.{IsStanding}
use Rattle.ab_sequents.proofs.name_types.standing_in.Given as goal

abbrev pub invariant-loop-h : goal.invariant-loop-h
invariant-loop-h l =
    IsStanding l.world.types l.numbers (support (read l.world l.goal.conclusion) ++ names_of (formulas (map (hypothesis_of l.world) (take l.h-index l.h-items)))) l.standing
