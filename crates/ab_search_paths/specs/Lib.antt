-- The path to an answer of a search: what a world holds of it, of what its search leaves, of what stands in for its variables, and of
-- what is looked for in a rule's place.
pub mod Frames
pub mod Paths
pub mod Likenesses
pub mod MoreTerms
pub mod Parts
-- A library that the crates above name through this one.
pub use Rattle.ab_walk
