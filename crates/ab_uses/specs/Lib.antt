-- USES OF A FORMULA on shared terms, in the words of `ab_theory`.
-- What the program holds of a use: terms that are given, questions, answers.
pub mod GivenReadings
pub mod StageReadings
pub mod UseReadings
pub mod Questions
-- What is taken off a formula, and what a choice of constants makes of it.
pub mod Layers
pub mod UseCells
pub mod GivenParts
pub mod NamedTerms
-- How a use is solved, choice by choice.
pub mod UseSolutions
pub mod ClosedReadings
pub mod ChoiceAnswers
pub mod ChoiceTrials
