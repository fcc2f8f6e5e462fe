pub mod Assumed
pub mod Replaying
