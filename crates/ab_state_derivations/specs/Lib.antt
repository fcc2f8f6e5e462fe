-- States that derivations bear out.
pub mod DerivedStates
