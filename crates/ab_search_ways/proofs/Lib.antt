mod Ahead
mod Bare
mod FlexibleHeads
pub mod FormMade
mod HeadsApart
pub mod LaterWorlds
mod LayerMade
mod Listing
mod Moving
mod NewConclusion
pub mod Opened
mod OtherCounts
pub mod PlacesKept
pub mod Placing
pub mod Posed
mod Quantified
mod Raised
mod Resolved
mod SameHeads
mod SeenParts
mod Targets
mod TypedScopes
mod Untouched
mod Valued
