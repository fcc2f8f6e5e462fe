-- What the rules of pattern unification find out of shared terms, in the words of `ab_unifiers`.
-- What equations, names and results stand for; which cells may be replaced; which names may become bound.
pub mod EquationReadings
pub mod Flexible
pub mod Abstraction
pub mod Existentials
-- Names as lists, and what walks keep: words that only proofs and private contracts speak.
pub mod ArgumentNames
pub mod ReadingWalks
pub use Rattle.ab_unifiers
