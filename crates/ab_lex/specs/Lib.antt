-- what has to be believed
pub mod Spans
pub mod Units
pub mod Commands
pub mod Tokens
pub mod Blanks
pub mod PendingText
-- tools of the private functions' clauses, of the splitter's model and of the proofs
pub mod Reader
pub mod Scanner
pub mod SplitterFields
