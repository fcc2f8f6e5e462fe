mod Gathering
mod Meaning
mod Rows
pub mod Given
mod TermSets
pub mod Places
pub mod Bared
pub mod Staged
pub mod Awaited
pub mod Turned
pub mod ApplyRows
pub mod Named
pub mod Usable
pub mod Carried
mod Answered
mod Constants
mod ReplacedSets
mod JudgementRows
