-- what has to be believed
pub mod Commands
pub mod FileItems
pub mod Faults
-- tools of the private functions' clauses and of the proofs
pub mod Openings
pub mod Leaves
pub mod Lists
pub mod GoalCommas
pub mod Wholes
pub use Rattle.ab_expressions
