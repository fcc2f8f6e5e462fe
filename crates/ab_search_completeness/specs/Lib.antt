-- AGAINST WHAT A SEARCH THAT FINDS NOTHING IS COMPLETE: formulas in focus that keep their shape, places of the tree; and why names have to stay.
pub mod Firm
pub mod Places
pub mod Examples
