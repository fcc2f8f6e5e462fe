pub mod Standings
pub mod Erased
pub mod Parts
pub mod MarkedAtoms
pub mod Counts
pub mod Looks
pub mod PartSizes
pub mod Halves
