-- Commands that use a formula or are given one, and which commands there are. What they do is in `ab_effects`.
pub mod RowCommands
-- Expressions in a goal: scopes, readings, terms that are given, and why a formula isn't derived first.
pub mod GoalScopes
pub mod GoalExpressions
pub mod GivenTerms
pub mod ReplacedConstants
pub mod CutRefusals
-- What steps leave of the goals of a proof.
pub mod Questions
pub mod GoalCounts
pub mod RemainingGoals
-- A library that the crates above name through this one.
pub use Rattle.ab_hypothesis
