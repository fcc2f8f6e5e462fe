mod Readings
mod Stepping
pub mod Effects
pub mod Searching
pub mod Proofs
