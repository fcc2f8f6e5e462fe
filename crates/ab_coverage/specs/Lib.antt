-- THAT CASE ANALYSIS LOSES NOTHING: each instance of what is analysed is met by one of the goals that come of it.
-- How bodies are compared: judgements opened, `exists` over nothing left out, names taken off.
pub mod VacuousNames
pub mod OpenedFormulas
pub mod TakenNames
-- The formulas of a goal that arises, past the names of new variables.
pub mod GoalFormulas
-- What cover says of judgements.
pub mod JudgementCover
-- What it says of the goals that come of a hypothesis, whatever it is.
pub mod HypothesisCover
-- Where derivations take hypotheses apart.
pub mod Nodes
