-- What is asked of formulas and of declarations, so that an answer of the search tree is a proof.
-- Formulas without judgements that coinduction marked.
pub mod Unmarked
-- Clauses whose bodies come from texts.
pub mod FromTexts
-- Ways of the search tree to an answer, as lists of steps.
pub mod Followed
