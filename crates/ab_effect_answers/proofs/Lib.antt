mod Loads
mod Texts
mod Files
mod Clauses
mod Defining
mod Declaring
mod Goals
mod Proving
mod Taking
pub mod Effects
