-- Commands on the conclusion: what the parts of their work leave of a proof. What the commands do is in `ab_effects`.
pub mod Conjunctions
pub mod IntroductionSteps
pub mod InductionSizes
pub mod UnfoldingChoice
