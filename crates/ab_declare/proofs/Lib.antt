mod Over
mod Splitting
pub mod Joined
pub mod Walks
pub mod ClauseTypes
pub mod Numbering
pub mod Kept
pub mod Answering
pub mod Resolving
pub mod Heads
pub mod Closed
pub mod Proposed
pub mod Renumbered
pub mod Faulty
pub mod Renaming
pub mod Taking
pub mod Knowing
pub mod Restoring
pub mod Adding
pub mod Concluding
pub mod Statements
pub mod Putting
pub mod Ending
pub mod Turns
pub mod Undefined
pub mod Meant
pub mod Behind
