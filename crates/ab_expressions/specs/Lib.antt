-- Expressions and types as trees, read from tokens by a machine whose stack is a list: no nesting of the text can be too deep for it.
pub mod Tokens
pub mod Items
pub mod SyntaxTrees
pub mod Kinds
pub mod Digits
pub mod Reader
pub mod ReaderSteps
pub mod Frames
pub mod States
