-- What a run of the program answers: what is printed of a script, and how the run ends, by what the line asks for.
pub mod Status
pub mod Ways
pub mod FirstLine
pub mod ProvedTheorems
pub mod Report
pub mod Outside
pub mod Endings
pub mod Outcome
pub mod Progress
