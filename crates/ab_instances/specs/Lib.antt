-- The alternatives of a defined atom on shared terms, in the plain words of `ab_unifiers`: what lists of constants, of cells
-- and of terms stand for. `ConstantOrder`, `RaisedCells` and `CellBindings` serve private contracts.
pub mod ListReadings
pub mod ConstantOrder
pub mod RaisedCells
pub mod CellBindings
