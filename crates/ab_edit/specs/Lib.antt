-- what has to be believed
pub mod Edits
pub mod Prefixes
pub mod Moves
-- what is true of every document, and tools of the private functions' clauses
pub mod State
