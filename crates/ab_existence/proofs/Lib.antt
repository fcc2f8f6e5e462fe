pub mod Certain
pub mod Rows
pub mod Namings
pub mod FreeNames
pub mod Room
mod Steps
mod Erased
