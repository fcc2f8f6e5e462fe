-- WHAT IS DECLARED over a world, and when it is refused.
-- What the commands outside a proof declare or ask for.
pub mod DeclarationCommands
pub mod DefinitionCommands
pub mod Refusals
-- What a call leaves of a world, and worlds that are cut back.
pub mod DeclarationAnswers
pub mod Moments
-- Clauses as they are written: their readings, what they mean, and how they are kept.
pub mod ClauseReadings
pub mod ClauseMeanings
pub mod ClauseAnswers
pub mod KeptClauses
pub mod Existentials
pub mod ClauseNumbering
-- Rows, growing stores and halts: words that only proofs and private contracts speak.
pub mod JoinedRows
pub mod CellGrowth
pub mod Halts
