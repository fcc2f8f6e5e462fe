pub mod Counting
pub mod HypothesisNames
pub mod MadeBeside
pub mod RulePlans
mod Searching
mod PendingGoals
