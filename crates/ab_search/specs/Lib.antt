-- Searches that are carried out by steps of the kernel: what a search comes to; what becomes of the goals of a proof on the way; and
-- what a world holds of what is done for a rule.
pub mod Searched
pub mod GoalCounts
pub mod RulePlans
