-- Parts of sequents on shared terms.
-- Size marks, as the program sees them in a formula.
pub mod HeadMarks
-- Sizes: the formula that gets one, and which levels count for a new mark.
pub mod SizeViews
pub mod Kinds
-- Nominal constants that change places.
pub mod NameTypes
