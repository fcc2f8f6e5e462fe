-- UNIFICATION AND MATCHING: equations between goals and clauses, solved once with the variables of both, and once more when
-- terms are put in for the goals' variables.
pub mod Reading
pub mod Raising
