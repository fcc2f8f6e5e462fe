-- WHAT IS PRINTED of a term, a goal and a reply.
-- Shapes: plain trees in which each bound name has its printed name; their bytes, and the grammar's trees that they are.
pub mod Shapes
pub mod ShapeText
pub mod ShapeTrees
pub mod Values
pub mod QuantifierRows
pub mod ShapeExamples
-- Names: what a bound name is called.
pub mod PrintedNames
pub mod NameAssignment
pub mod NameScopes
-- Terms and goals of a world, as bytes.
pub mod GoalText
pub mod NamedGoalText
pub mod Examples
-- Terms taken out of a store, with the places of their heads: words that only proofs and private contracts speak.
pub mod Drawings
pub mod BinderNames
pub mod Places
pub mod NameUses
