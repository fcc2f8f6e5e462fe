-- All alternatives of a defined atom or a judgement: what they are on plain trees, and what the program's stand for.
-- `AlternativeSteps` serves private contracts.
pub mod Alternatives
pub mod CaseAlternatives
pub mod AlternativeReadings
pub mod AlternativeSteps
