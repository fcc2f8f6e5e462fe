mod ConstantsHeld
mod CellsMade
mod Abstracting
mod ClauseGoals
mod Signs
pub mod SubjectsRead
mod RuleSlots
mod DemandCases
mod DemandsMade
mod GoalsThrough
mod DemandsOfNames
mod PartScopes
mod DemandBodies
mod TermsBelow
mod PlaceRules
pub mod PlaceLists
pub mod LaterJudgements
mod DemandFormulas
mod CutWorlds
mod CaseTries
pub mod LaterRules
mod NextPlace
mod RuleWays
pub mod SubjectForms
mod NumberedRules
mod ArgumentsEqual
mod ClauseMade
mod PartMade
mod DemandsTyped
mod PartSteps
mod NamesStay
