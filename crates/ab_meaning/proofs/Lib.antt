pub mod Members
pub mod Heads
pub mod Standing
pub mod Resolving
pub mod Makings
