-- What a session holds, what is true of it, where it came from, what lasts of it, and what a command leaves of it.
pub mod Contents
pub mod Sessions
pub mod Origins
pub mod Lasting
pub mod PlaceMarks
pub mod ProofAttempts
pub mod SessionAnswers
pub mod Remains
pub mod LatestNames
-- Libraries that the crates above name through this one.
pub use Rattle.ab_states
