pub mod Staying
pub mod MoreTerms
pub mod CellTerms
pub mod StandIns
pub mod Likenesses
pub mod Parts
pub mod BoundCells
pub mod EntriesKept
