pub mod Following
pub mod Connectives
pub mod Plain
pub mod OwedJust
