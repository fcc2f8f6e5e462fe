-- What the ids of a store stand for, as plain terms.
pub mod Trees
pub mod Reading
pub mod Bindings
pub mod Naming
pub mod Marks
pub mod Growth
pub mod NamedTypes
pub mod Layout
-- Libraries that the crates above name through this one.
pub use Rattle.ab_types.specs.ab_name
pub use Rattle.ab_types
