use Rattle.std.proofs.Common.{[], ◌++◌, map, take}
use Rattle.ab_term.specs.Names.{support}
use Rattle.ab_norm.specs.ab_types.specs.Ids.{type_of}
use Rattle.ab_logic.specs.Worlds.{read}
use Rattle.ab_logic.specs.SequentReadings.{hypothesis_of}
use Rattle.ab_rules.specs.UsedNumbers.{Gains}
use Rattle.ab_rules.proofs.Chosen.{Unfit, names_in}
use Rattle.ab_rules.proofs.nabla_constants.excluded_numbers.Given as goal

abbrev pub invariant-loop-h : goal.invariant-loop-h
invariant-loop-h l =
    Gains [] l.numbers.items (Unfit (type_of l.world.types l.ty) (support (read l.world l.fn.formula))
    (support (read l.world l.sequent.conclusion) ++ names_in (map (hypothesis_of l.world) (take l.h-index l.h-items))))
