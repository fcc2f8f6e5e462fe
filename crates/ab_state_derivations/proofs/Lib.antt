mod Declaring
mod Forward
pub mod Histories
pub mod Searches
