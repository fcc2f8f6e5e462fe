-- WHEN A FORMULA STANDS FOR ANOTHER in a goal, and when a step is allowed.
pub mod Standing
-- HOW A FORMULA LEADS TO ANOTHER, stage by stage.
pub mod Leading
-- THE STAGES OF A USE of a formula.
pub mod UseStages
-- WHAT A USE LEADS TO FOLLOWS.
pub mod UsesFollow
-- Terms that are given for names.
pub mod UseRows
-- New constants for variables that stay open.
pub mod NewConstants
