use Rattle.ab_term.specs.Terms.{constant, spine}
use Rattle.ab_unifiers.proofs.Atoms.{atom_of}
use Rattle.ab_unifiers.proofs.Covered.{covered_plain}
use Rattle.ab_unifiers.proofs.ByChoice.{covered}
use Rattle.ab_unifiers.proofs.case_laws.cases_cover.Goals as goal

pub returns-clause-without_names : goal.returns-clause-without_names
returns-clause-without_names g c = λ sg x sequent clauses p ts well plain scope of s typed clean B i.
    covered_plain sg x sequent clauses well s typed clean B plain p ts (atom_of sg sequent (spine (constant p) ts) scope of) i

pub returns-clause-with_names : goal.returns-clause-with_names
returns-clause-with_names g c = λ sg x sequent clauses p ts well scope of s typed clean B i.
    covered sg x sequent clauses well s typed clean B p ts (atom_of sg sequent (spine (constant p) ts) scope of) i
