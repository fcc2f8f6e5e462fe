-- ELABORATION: the term of the one reading of an expression, or why there is none.
-- What names stand for in a program's scope.
pub mod ScopeReadings
pub mod NameScopes
pub mod NameAnswers
-- What `elaborate` answers.
pub mod ElaborationAnswers
pub mod Outcomes
-- The term that the steps of an expression make.
pub mod NormalTerms
pub mod Values
pub mod Heads
-- The walk over an expression.
pub mod Occurrences
pub mod Rows
pub mod WalkMoves
-- What is asked of declarations beforehand.
pub mod Lists
