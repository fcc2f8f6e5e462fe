-- THE LANGUAGE HAS AN ANSWER TO EACH TEXT, and what is printed reads back.
-- The three answers to tokens.
pub mod TextAnswers
-- Nesting by the forms of a text, and the first token that is too deep.
pub mod NestingMarks
pub mod FirstDeepToken
-- What is printed, read again.
pub mod Resolution
pub mod Spellings
pub mod Legible
