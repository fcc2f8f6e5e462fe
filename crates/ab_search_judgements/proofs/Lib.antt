pub mod Shapes
pub mod Raising
pub mod Demands
pub mod Listed
pub mod Fresh
pub mod ByClause
pub mod RulePath
