-- Which states are whole; where a command finds names; and that it has some effect.
pub mod WholeStates
pub mod SomeEffects
-- Libraries that the crates above name through this one.
pub use Rattle.ab_states
