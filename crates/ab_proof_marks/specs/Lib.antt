-- What a proof's nodes name, all of them, or those behind the steps that stood before; and the types that its steps name.
pub mod NamedInProofs
pub mod NamedTypes
-- A library that the crates above name through this one.
pub use Rattle.ab_remains
