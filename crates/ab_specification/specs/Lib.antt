-- WHAT THE FILES OF A SPECIFICATION DECLARE, and when they are refused.
pub mod ItemDeclarations
pub mod FileDeclarations
-- What a call leaves of a world.
pub mod SpecificationAnswers
-- Words that only proofs and private contracts speak.
pub mod ItemAnswers
-- Libraries that the crates above name through this one.
pub use Rattle.ab_declare
