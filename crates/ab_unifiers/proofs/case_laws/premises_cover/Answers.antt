use Rattle.ab_term.specs.Terms.{constant, spine}
use Rattle.ab_term.specs.Translation.{EqualPastHints}
use Rattle.ab_term.specs.Names.{EqualUpToNames}
use Rattle.ab_unifiers.proofs.Atoms.{atom_of}
use Rattle.ab_unifiers.proofs.Covered.{covered_plain}
use Rattle.ab_unifiers.proofs.ByChoice.{covered}
use Rattle.ab_unifiers.proofs.Leading.{met}
use Rattle.ab_unifiers.proofs.case_laws.premises_cover.Goals as goal

pub returns-clause-without_names : goal.returns-clause-without_names
returns-clause-without_names g c = λ sg x sequent clauses p ts well plain scope of ps leads s typed clean B i.
    met x EqualPastHints sg sequent clauses (spine (constant p) ts) s B ps leads
    (covered_plain sg x sequent clauses well s typed clean B plain p ts (atom_of sg sequent (spine (constant p) ts) scope of) i)

pub returns-clause-with_names : goal.returns-clause-with_names
returns-clause-with_names g c = λ sg x sequent clauses p ts well scope of ps leads s typed clean B i.
    met x EqualUpToNames sg sequent clauses (spine (constant p) ts) s B ps leads
    (covered sg x sequent clauses well s typed clean B p ts (atom_of sg sequent (spine (constant p) ts) scope of) i)
