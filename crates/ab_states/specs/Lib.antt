-- What a session is to whoever reads its replies: states as plain lists, replies, and the effect of each command.
pub mod State
pub mod Reply
pub mod ProofCommandEffects
pub mod ForwardEffects
pub mod Replay
pub mod StateEffects
pub mod DerivedTheorems
-- Libraries that the crates above name through this one.
pub use Rattle.ab_specification
pub use Rattle.ab_kernel
