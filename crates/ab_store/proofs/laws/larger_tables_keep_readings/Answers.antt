use Rattle.std.proofs.Common.{sym, subst, ap, ◌∙◌}
use Rattle.ab_store.specs.Trees.{tree_of}
use Rattle.ab_store.specs.Reading.{reading}
use Rattle.ab_store.specs.Naming.{IsTypedBy, IsTerm}
use Rattle.ab_store.proofs.Tables.{still_typed, same_reading, same_tree, same_term}
use Rattle.ab_store.proofs.laws.larger_tables_keep_readings.Goals as goal

pub returns-clause-typed : goal.returns-clause-typed
returns-clause-typed c = λ types more store part h. subst (λ t. IsTypedBy t store) (sym part.1) (still_typed types part.0 store h)

pub returns-clause-readings : goal.returns-clause-readings
returns-clause-readings c = λ types more store part h t held. ap (λ s. reading s store t) part.1 ∙ same_reading types part.0 store h t

pub returns-clause-trees : goal.returns-clause-trees
returns-clause-trees c = λ types more store part h t held. ap (λ s. tree_of s store t) part.1 ∙ same_tree types part.0 store h t

pub returns-clause-terms : goal.returns-clause-terms
returns-clause-terms c = λ types more store part h G t A is. subst (λ s. IsTerm s store G t A) (sym part.1) (same_term types part.0 store h G t A is)
