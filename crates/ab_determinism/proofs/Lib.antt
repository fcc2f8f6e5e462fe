mod Settled
pub mod OneReading
mod Commands
mod Outlines
mod Namings
mod Alike
mod OneWay
mod OneIntroduction
pub mod Renumbered
mod Rescoped
mod Reread
pub mod Retold
mod Equations
mod Bodies
mod Parting
mod First
mod Unfolded
pub mod Pieces
pub mod Uses
pub mod Matching
pub mod OneUse
pub mod Rows
mod Giving
mod Fronts
mod Unmarked
mod Answered
mod LeftOver
mod Chaining
mod Applying
pub mod Remarked
pub mod Once
mod Faults
mod Clauses
mod Definitions
mod Defining
mod Judged
mod Declaring
mod Statements
mod Programs
pub mod Sound
mod Searching
pub mod Effects
pub mod Taking
pub mod OneEffect
