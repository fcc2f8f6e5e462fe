mod JudgementRows
mod Replacing
pub mod NewNumbers
mod Sides
pub mod Filling
pub mod Hand
pub mod Placing
pub mod Standing
pub mod Taking
pub mod TakingBack
pub mod Later
pub mod Refines
pub mod Earlier
pub mod Trees
pub mod Growing
pub mod Owing
mod SubjectRows
pub mod GoalSequents
