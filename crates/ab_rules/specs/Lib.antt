-- The rules of the logic that look at one formula, or at the goal alone: on connectives and quantifiers, on hypotheses that close a
-- goal, and on induction. Each makes the premises of a step, or says why it may not be taken.
pub mod RuleAnswers
pub mod Items
pub mod SizeSteps
pub mod Terms
pub mod UsedNumbers
