-- Judgements on shared terms: how they read, where their rules stand, and what a rule demands. What they mean is told by
-- `ab_theory`. `Shapes`, `ShapeReadings`, `PartWalks`, `DemandWalks`, `ListItems` and `RuleSteps` serve private contracts.
pub mod SubjectReadings
pub mod SubjectAnswers
pub mod DemandReadings
pub mod RuleWalks
pub mod RuleSteps
-- Libraries that the crates above name through this one.
pub use Rattle.ab_alternatives
pub use Rattle.ab_judgement_forms
