pub mod Walks
pub mod Kept
pub mod Raised
pub mod Solved
pub mod Assembled
pub mod Whole
pub mod LeftOpen
pub mod Concluded
pub mod Matched
pub mod UnfoldingCase
pub mod Undone
pub mod Put
pub mod CasePut
pub mod Tried
pub mod Counted
pub mod GoalNames
pub mod Placed
pub mod Unfoldable
pub mod Lasting
pub mod Searched
mod Listed
mod Chosen
pub mod Passed
pub mod Later
mod NextChoice
mod Quantified
