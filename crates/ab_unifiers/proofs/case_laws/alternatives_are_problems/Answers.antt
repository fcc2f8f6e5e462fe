use Rattle.ab_term.specs.Terms.{constant, spine}
use Rattle.ab_unifiers.proofs.Atoms.{atom_of}
use Rattle.ab_unifiers.proofs.Answered.{listed_problem}
use Rattle.ab_unifiers.proofs.case_laws.alternatives_are_problems.Goals as goal

pub returns-clause-typed : goal.returns-clause-typed
returns-clause-typed g c = λ sg x side sequent clauses p ts well scope of alt m. (listed_problem sg x side sequent clauses well p ts (atom_of sg sequent (spine (constant p) ts) scope of) alt m).0

pub returns-clause-known : goal.returns-clause-known
returns-clause-known g c = λ sg x side sequent clauses p ts well scope of alt m. (listed_problem sg x side sequent clauses well p ts (atom_of sg sequent (spine (constant p) ts) scope of) alt m).1
