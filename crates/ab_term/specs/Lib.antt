-- The subject of every later crate: simple types, and canonical terms over them as plain trees.
-- In the terms of the textbooks: simply typed lambda calculus in beta-normal, eta-long form with de Bruijn
-- indices, hereditary substitution, and nominal constants with their permutations.
pub mod Types
pub mod Logical
pub mod Terms
pub mod Typing
pub mod Constants
pub mod Substitution
pub mod Expansion
pub mod Translation
pub mod Names
pub mod Sameness
pub mod EtaHeads
pub mod Abstraction
pub mod Sizes
pub mod Variables
pub mod Beta
pub mod Normal
pub mod Reach
pub mod Codes
pub mod Examples
