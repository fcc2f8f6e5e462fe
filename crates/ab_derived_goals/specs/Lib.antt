-- When a goal is derived from others.
pub mod Derived
-- Terms that are given for names.
pub mod GivenTerms
-- A derivation that goes on.
pub mod Extended
