-- How many variables may come of opening a formula.
pub mod Skeletons
-- Where the new variables of a proof command are sure to find names.
pub mod FindsNames
