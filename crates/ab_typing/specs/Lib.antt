-- WHICH IDS ARE TERMS OF A TYPE, formulas, and fit a sequent; clauses as they are kept. The words themselves are on plain terms,
-- in `ab_formulas`.
-- What cells and clauses stand for.
pub mod Cells
pub mod DefinitionReadings
-- Parts and places, heads and nominal numbers: words that only proofs and private contracts speak.
pub mod Parts
pub mod Places
pub mod HeadArguments
pub mod NominalTypes
pub mod JudgedTerms
