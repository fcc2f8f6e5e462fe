-- The ways of a goal, one after another, on shared terms: which are still to be gone.
pub mod Cursors
pub mod Stages
pub mod Steps
pub mod Unfoldable
-- Libraries that the crates above name through this one.
pub use Rattle.ab_judgements
pub use Rattle.ab_search_ways
