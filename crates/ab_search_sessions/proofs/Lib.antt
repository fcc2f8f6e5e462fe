pub mod Defined
pub mod Theorems
pub mod Sessions
