-- Lemmas of what is taken off a formula.
mod Counts
pub mod Layers
mod Named
mod Serving
-- Lemmas of what one choice of constants makes of a formula.
mod Items
mod Shapes
mod OverConstants
mod Fronts
mod Moved
mod Parted
mod NewVariables
mod Steps
mod Rest
mod Halves
mod TermsGiven
mod PartsMade
-- Lemmas of how a use of a formula is found.
pub mod Left
pub mod Filling
pub mod Closing
pub mod Concluding
pub mod ErasedTyped
pub mod Equations
pub mod Known
pub mod UseItems
pub mod First
pub mod Branches
pub mod Solved
pub mod UseMade
pub mod Lasting
pub mod Tried
pub mod Searched
pub mod Posed
pub mod Undone
pub mod Parts
