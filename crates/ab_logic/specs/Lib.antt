-- What the logic speaks of, over plain trees: formulas and their marks, declarations, sequents. And how the
-- program's worlds and sequents stand for these.
pub mod Worlds
pub mod WorldGrowth
pub mod SequentReadings
pub mod Forms
pub mod Additions
pub mod NewDefinitions
pub mod MemberDefinition
