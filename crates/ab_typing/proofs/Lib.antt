mod Sets
mod Bounds
mod Listed
mod Contexts
mod Members
mod Noted
mod Judged
mod Standing
mod ClauseBounds
mod PredicateSets
pub mod Names
mod Looking
mod Keeping
mod Headed
mod Faulty
