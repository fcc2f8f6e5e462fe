use Rattle.ab_term.proofs.Permuting.{extended, rename_agrees}
use Rattle.ab_term.proofs.permutation_laws.maps_extend_to_permutations.Goals as goal

pub returns-clause-constants : goal.returns-clause-constants
returns-clause-constants g c = λ f standing one keeps. extended f standing one keeps

pub returns-clause-terms : goal.returns-clause-terms
returns-clause-terms g c = λ f h t a. rename_agrees f h t a
