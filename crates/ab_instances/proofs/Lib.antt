mod Dressed
mod Instanced
mod Listed
mod Chosen
pub mod Made
pub mod Bound
mod Noted
mod Opened
pub mod Fitting
mod Assembled
