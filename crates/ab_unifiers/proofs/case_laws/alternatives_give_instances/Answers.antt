use Rattle.ab_term.specs.Terms.{constant, spine}
use Rattle.ab_unifiers.proofs.Atoms.{atom_of}
use Rattle.ab_unifiers.proofs.Answered.{answered_instance}
use Rattle.ab_unifiers.proofs.SoundCases.{listed_solved}
use Rattle.ab_unifiers.proofs.case_laws.alternatives_give_instances.Goals as goal

pub returns-clause-any_unifier : goal.returns-clause-any_unifier
returns-clause-any_unifier g c = λ sg x side sequent clauses p ts well scope of alt m q typed bare u.
    listed_solved sg x side sequent clauses well p ts (atom_of sg sequent (spine (constant p) ts) scope of) alt m q typed bare u

pub returns-clause-answers : goal.returns-clause-answers
returns-clause-answers g c = λ sg x side sequent clauses p ts well scope of alt m more q s.
    answered_instance sg x side sequent clauses well p ts (atom_of sg sequent (spine (constant p) ts) scope of) alt m more q s
