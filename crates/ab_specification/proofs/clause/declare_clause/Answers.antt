use Rattle.std.proofs.Common.{sym, subst}
use Rattle.ab_syntax.specs.Commands.{clause_of}
use Rattle.ab_formulas.specs.Declarations.{signature_in}
use Rattle.ab_formulas.specs.Programs.{IsProgramProposed}
use Rattle.ab_typing.specs.DefinitionReadings as kept
use Rattle.ab_logic.proofs.Growing.{grows_on}
use Rattle.ab_specification.specs.ItemDeclarations.{clause_unread}
use Rattle.ab_specification.proofs.ClauseAnswers.{clause_answer}
use Rattle.ab_specification.proofs.clause.declare_clause.Goals as goal

pub add_clause-requires-clause-world : goal.add_clause-requires-clause-world
add_clause-requires-clause-world g c = c.read_clause.ensures.grows.world

pub add_clause-requires-clause-proposed : goal.add_clause-requires-clause-proposed
add_clause-requires-clause-proposed g c =
    let mid = c.read_clause.new.world in
    subst (λ D. IsProgramProposed (signature_in D) (kept.clause_of mid.types mid.store c.in-Ok.clause)) (sym c.read_clause.ensures.same) c.in-Ok.ensures.read.proposed

pub returns-in-Ok-clause-answer : goal.returns-in-Ok-clause-answer
returns-in-Ok-clause-answer g c =
    clause_answer c.args.world.now c.read_clause.new.world c.add_clause.new.world c.args.clauses_before (clause_of c.args.parse.now) c.in-Ok.clause c.add_clause.result c.read_clause.ensures.same c.in-Ok.ensures.read c.add_clause.ensures.added

pub returns-in-Ok-clause-grows : goal.returns-in-Ok-clause-grows
returns-in-Ok-clause-grows g c = grows_on c.args.world.now c.read_clause.new.world c.add_clause.new.world c.read_clause.ensures.grows c.add_clause.ensures.grows

pub returns-in_ok-refusal_for-in-Err-clause-answer : goal.returns-in_ok-refusal_for-in-Err-clause-answer
returns-in_ok-refusal_for-in-Err-clause-answer g c = clause_unread c.in-Err.fault c.in-Err.ensures.unread c.in_ok-refusal_for-in-Err.ensures
