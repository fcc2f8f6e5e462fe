mod Brought
mod ClauseChoice
mod ClauseMade
mod FreshConstants
mod Led
mod MapsInTurn
mod Rows
pub mod RuleChoice
mod RuleMade
mod TargetLists
mod Turns
mod WaysInTurn
