-- Commands on a hypothesis: what the parts of their work leave of a goal. What the commands do is in `ab_effects`.
pub mod OwnNames
pub mod HypothesisProgress
-- A hypothesis taken apart, and a defined atom or a judgement analysed.
pub mod CaseAnswers
pub mod AnalysedGoals
pub mod HypothesisRefusals
-- Rules of judgements.
pub mod JudgementSteps
-- A library that the crates above name through this one.
pub use Rattle.ab_steps
