-- The table of kinds, constants and types: the list of its entries, in the order in which they came.
-- Types are those of `ab_term`; the numbers that stand for entries read as them.
pub mod Entries
pub mod Ids
pub mod Sound
pub mod LastTypes
pub mod Codes
pub mod Columns
pub mod Layout
pub mod Builtin
pub mod Tally
-- Libraries that the crates above name through this one.
pub use Rattle.ab_name
