-- Judgements as formulas on shared terms: the judgement that a formula is, goals opened in a list, whether its rules are known,
-- the parts of a formula in focus, and scopes that are put together of names and terms. What all this means is told by `ab_theory`.
pub mod JudgementReadings
pub mod KindReadings
pub mod PartReadings
pub mod Shapes
pub mod ShapeReadings
pub mod PartWalks
pub mod DemandWalks
pub mod ListItems
