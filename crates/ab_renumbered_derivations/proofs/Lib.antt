mod Remarked
mod Contexts
mod Formulas
mod Unfolding
mod Rows
mod Numbering
pub mod Derivations
