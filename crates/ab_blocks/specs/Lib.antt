-- What is printed behind a command, as bytes, over plain states and replies.
pub mod Blocks
