-- THAT `case` LOSES NOTHING.
pub mod CaseGoals
