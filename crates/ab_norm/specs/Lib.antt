-- What the operations on shared terms mean, in the plain terms of `ab_term`. `NodeGrowth` says what a maker of terms
-- leaves of a store, `NodeTrees` and `Nominals` what the program's own trees and constants stand for; the others serve
-- private contracts.
pub mod NodeGrowth
pub mod Items
pub mod NodeTrees
pub mod Nominals
pub mod NameMatches
pub mod PermutationTables
pub mod GatheredNames
pub mod WalkMemory
pub mod Changes
pub mod TypedArguments
pub mod BinderNames
pub mod Heads
pub mod ResolvedTerms
pub mod OtherStores
-- Libraries that the crates above name through this one.
pub use Rattle.ab_store.specs.ab_name
pub use Rattle.ab_store.specs.ab_types
pub use Rattle.ab_store
