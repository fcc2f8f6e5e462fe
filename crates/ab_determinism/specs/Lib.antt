-- WHAT IS TRUE OF ALL THAT A SESSION DECLARES, and of its states.
pub mod Sound
-- Which proof commands open formulas; and one use of one formula, by two numberings.
pub mod OpeningCommands
pub mod UsesByNames
