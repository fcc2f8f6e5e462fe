use Rattle.ab_term.specs.Terms.{constant, spine}
use Rattle.ab_term.specs.Translation.{EqualPastHints}
use Rattle.ab_term.specs.Names.{EqualUpToNames}
use Rattle.ab_unifiers.proofs.Atoms.{atom_of}
use Rattle.ab_formulas.specs.NewNames.{IsNoVariable}
use Rattle.ab_theory.specs.Analysis.{scope_of}
use Rattle.std.proofs.Common.{codes}
use Rattle.ab_theory.proofs.PlainChoice.{covered_by_plain}
use Rattle.ab_unifiers.proofs.ByChoice.{covered_by_choice}
use Rattle.ab_theory.proofs.Walked.{met_by_one}
use Rattle.ab_theory.proofs.case_coverage.goals_cover.Goals as goal

pub returns-clause-without_names : goal.returns-clause-without_names
returns-clause-without_names c = λ sg cells s t name d gs well plain scope of adds split q typed clean B i.
    met_by_one EqualPastHints sg (λ k hint x. IsNoVariable k x) s t name d q B cells
    (covered_by_plain sg (codes "x") (scope_of cells s) d.block.clauses well q typed clean B plain d.predicate d.arguments (atom_of sg (scope_of cells s) (spine (constant d.predicate) d.arguments) scope of) i)
    scope.numbered adds gs split

pub returns-clause-with_names : goal.returns-clause-with_names
returns-clause-with_names c = λ sg cells s t name d gs well scope of adds split q typed clean B i.
    met_by_one EqualUpToNames sg (λ k hint x. IsNoVariable k x) s t name d q B cells
    (covered_by_choice sg (codes "x") (scope_of cells s) d.block.clauses well q typed clean B d.predicate d.arguments (atom_of sg (scope_of cells s) (spine (constant d.predicate) d.arguments) scope of) i)
    scope.numbered adds gs split
