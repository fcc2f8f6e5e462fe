-- FROM WHAT A SEARCH SHOWS TO A DERIVATION by the rules, on plain trees.
-- SEQUENTS LIKE A GOAL of a search: the same but for nominal constants and for variables.
pub mod Likeness
-- A STEP OF THE KERNEL that is allowed, and where it leads.
pub mod Taking
-- PROOFS of a search: what is shown, with what the rules ask for.
pub mod Proved
-- What comes of a clause.
pub mod Coming
-- Whole derivations, and where a search begins.
pub mod Whole
