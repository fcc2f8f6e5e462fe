-- TYPE INFERENCE: which types make an expression well-typed.
-- Equations between type variables, their solutions, and how these are found.
pub mod Solutions
pub mod Work
pub mod VariableSteps
pub mod Assignments
-- Expressions as rows of steps, what their parts say of type variables, and whether there is one reading.
pub mod Sketches
pub mod Programs
pub mod Inferences
pub mod Verdicts
-- Types as they are written.
pub mod WrittenTypes
pub mod Freedom
