-- What a proof command leaves of a proof in progress.
pub mod Progress
pub mod ProofEffects
-- Libraries that the crates above name through this one.
pub use Rattle.ab_kernel
