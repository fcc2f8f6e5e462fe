-- The walk of the search tree on shared terms: what a place of it has for leaves, and what is told of these.
-- `Standing` and `Stacks` serve private contracts.
pub mod Places
pub mod Paths
pub mod Told
pub mod Standing
pub mod Stacks
-- A library that the crates above name through this one.
pub use Rattle.ab_next_ways
