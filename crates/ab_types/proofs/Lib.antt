mod Members
pub mod Entries
mod Rows
mod Merging
pub mod Kept
mod Grown
mod Refusals
mod Cutting
pub mod Sorts
mod First
