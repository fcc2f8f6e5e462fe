-- what has to be believed
pub mod Plain
pub mod Tables
pub mod Pieces
pub mod Texts
-- what the program's certificates stand for
pub mod Members
pub mod TypeNodes
pub mod Signs
pub mod TermNodes
pub mod Values
pub mod Answers
-- tools of the reader's private functions
pub mod Reading
pub mod Shapes
pub mod Counts
pub mod Grammar
pub mod Leads
pub mod PendingParts
pub mod Outlines
pub mod Splits
pub mod Forms
pub mod Nodes
pub mod TreeForms
-- what is said of the writer, and tools of its private functions
pub mod Appending
pub mod Writing
