pub mod Fronts
pub mod Ends
pub mod Lists
pub mod Honest
pub mod Steps
pub mod AfterEdit
pub mod Longest
