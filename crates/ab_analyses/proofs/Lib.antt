pub mod AlternativeParts
pub mod ChoiceAlternatives
pub mod ListsMade
pub mod NextAlternative
pub mod RuleAlternatives
pub mod NextRule
mod CasesBy
