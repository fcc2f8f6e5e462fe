use Rattle.std.specs.List.{AllWithin}
use Rattle.ab_typing.specs.DefinitionReadings.{HoldsClause}
use Rattle.ab_remains.specs.RaisedMarks.{IsRaised}
use Rattle.ab_remains.proofs.addition_marks.mark_to_clauses.Given as goal

abbrev pub invariant-loop-clause : goal.invariant-loop-clause
invariant-loop-clause l =
    IsRaised l.world (λ v. AllWithin (λ c. HoldsClause l.world.types l.world.store c → HoldsClause v.types v.store c) l.clauses 0 l.clause-index)
    (λ v. AllWithin (HoldsClause v.types v.store) l.clauses 0 l.clause-index) l.fn.mark l.raised
