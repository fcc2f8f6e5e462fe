-- THE SEARCH TREE of a sequent, on plain trees: no word of this crate speaks of shared terms.
-- GOALS, and the ways to go on from each, in order: maps of hypotheses' constants, judgements, all ways.
pub mod Goals
pub mod Maps
pub mod Judgements
pub mod Ways
-- THE TREE, by its leaves, and what it comes to.
pub mod Lifting
pub mod Tree
pub mod Outcomes
-- The same by other numbers for variables.
pub mod Numberings
-- Against what it is judged: derivations by guesses, and what an answer shows.
pub mod Guesses
pub mod Shown
-- Goals to try it on.
pub mod Examples
