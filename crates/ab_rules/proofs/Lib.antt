pub mod Adding
pub mod Making
pub mod Chosen
pub mod Words
pub mod Finding
pub mod SizeRows
