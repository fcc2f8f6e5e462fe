-- What is asked of readings.
pub mod Readings
-- Proofs in progress, and the derivations that bear them out.
pub mod OpenProofs
