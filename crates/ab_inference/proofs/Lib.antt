mod Answering
pub mod Joining
pub mod Turning
pub mod Following
pub mod Working
pub mod Tables
pub mod Telling
pub mod Marking
pub mod Pathing
pub mod Ending
pub mod Pushing
pub mod Stepping
pub mod Turned
pub mod WrittenTyping
pub mod Readings
pub mod Judging
mod Freed
