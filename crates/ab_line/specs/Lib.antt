-- what has to be believed: the line by `clap`'s functions of the words, and what it asks for
pub mod Command
pub mod Requests
-- what the program's values stand for
pub mod Lines
