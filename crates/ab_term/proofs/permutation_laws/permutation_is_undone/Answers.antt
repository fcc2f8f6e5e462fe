use Rattle.ab_term.proofs.Permutations.{swapped_table}
use Rattle.ab_term.proofs.UpToNames.{permute_back}
use Rattle.ab_term.proofs.permutation_laws.permutation_is_undone.Goals as goal

pub returns-clause-table : goal.returns-clause-table
returns-clause-table g c = λ ps table. swapped_table ps table

pub returns-clause-undone : goal.returns-clause-undone
returns-clause-undone g c = λ ps table t. permute_back ps table t
