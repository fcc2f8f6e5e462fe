mod Numbering
mod NamingEach
mod OneStep
pub mod PartingGoals
pub mod Introduces
mod Sizes
pub mod AnyCells
pub mod Unfolds
pub mod UnfoldingGoals
