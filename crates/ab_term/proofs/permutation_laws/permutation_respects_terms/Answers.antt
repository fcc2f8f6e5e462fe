use Rattle.ab_term.specs.Names.{moved_by}
use Rattle.ab_term.proofs.Renamings.{rename_typed, rename-instance, rename-image, support-rename}
use Rattle.ab_term.proofs.Permutations.{one_to_one}
use Rattle.ab_term.proofs.permutation_laws.permutation_respects_terms.Goals as goal

pub returns-clause-types : goal.returns-clause-types
returns-clause-types g c = λ sg ps table G A t d. rename_typed sg (moved_by ps) (one_to_one ps table).keeps d

pub returns-clause-instances : goal.returns-clause-instances
returns-clause-instances g c = λ ps t u. rename-instance (moved_by ps) t u

pub returns-clause-images : goal.returns-clause-images
returns-clause-images g c = λ ps same s t. rename-image same (moved_by ps) s t

pub returns-clause-names : goal.returns-clause-names
returns-clause-names g c = λ ps t. support-rename (moved_by ps) t
