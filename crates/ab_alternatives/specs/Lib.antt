-- Alternatives of defined atoms on shared terms: how they read, what one is made of, and what a choice unfolds to; by which
-- choice a conclusion unfolds first; and that no instance of an atom is lost where a goal is split by it into its cases. What
-- the cases are is told by `ab_equations` and `ab_theory`. `CaseSteps` and `ChoiceCounts` serve private contracts.
pub mod AtomReadings
pub mod LeftAlternatives
pub mod RightAlternatives
pub mod ChoiceMatches
pub mod Choices
pub mod FirstChoice
pub mod ChoiceCounts
pub mod CaseSteps
-- Libraries that the crates above name through this one.
pub use Rattle.ab_sequents
pub use Rattle.ab_equations
pub use Rattle.ab_instances
