-- WHERE LAYERS OF JUDGEMENTS ARE OPENED ONE BY ONE.
-- PROOFS of a search, which opens judgements layer by layer.
pub mod Layered
-- How a search goes on from a goal.
pub mod Taken
-- THE STEPS that close goals, one after another.
pub mod Closed
