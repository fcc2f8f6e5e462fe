pub mod OneClause
pub mod OneItem
pub mod OneSpecification
pub mod ReadClauses
pub mod GrownWorlds
pub mod ClauseAnswers
pub mod Turns
