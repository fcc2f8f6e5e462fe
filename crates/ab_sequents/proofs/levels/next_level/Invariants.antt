use Rattle.std.proofs.Common.{◌≡◌, ◌∷◌, map, take}
use Rattle.ab_logic.specs.Worlds.{read}
use Rattle.ab_formulas.specs.Sequents.{formulas}
use Rattle.ab_logic.specs.SequentReadings.{hypothesis_of}
use Rattle.ab_theory.specs.Levels.{greatest, signs_of_all}
use Rattle.ab_sequents.specs.Kinds.{level_by}
use Rattle.ab_sequents.proofs.levels.next_level.Given as goal

abbrev pub invariant-loop-h : goal.invariant-loop-h
invariant-loop-h l = l.level ≡ greatest (level_by l.kind) (signs_of_all (read l.world l.sequent.conclusion ∷ formulas (map (hypothesis_of l.world) (take l.h-index l.h-items))))
