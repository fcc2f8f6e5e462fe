use Rattle.std.proofs.Common.{map, take}
use Rattle.std.specs.List.{All}
use Rattle.ab_formulas.specs.Faults.{IsRight}
use Rattle.ab_typing.specs.DefinitionReadings.{name_of, clause_of}
use Rattle.ab_typing.specs.JudgedTerms.{AreClear, AreKeeping}
use Rattle.ab_typing.proofs.faults.first_fault.Given as goal

abbrev pub invariant-loop-place : goal.invariant-loop-place
invariant-loop-place l = record {
  cleared : AreClear (map (name_of l.types) l.predicates) l.types l.store l.cleared;
  spots : AreKeeping l.store l.spots;
  right : All (IsRight (map (name_of l.types) l.predicates)) (take l.place (map (clause_of l.types l.store) l.clauses));
}
