-- What is certain, and that one of several things holds.
pub mod Certainty
-- Where new variables are sure to find names.
pub mod FewNames
