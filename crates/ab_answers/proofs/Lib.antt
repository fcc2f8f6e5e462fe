pub mod Readings
mod Skeletons
pub mod Places
pub mod Asked
mod Opened
mod Uses
mod Analysed
pub mod Commands
mod Instances
