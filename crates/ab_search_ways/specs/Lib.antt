-- The ways of a search on shared terms, in the plain words of `ab_search_trees`: what a goal and a place of the tree stand for,
-- a way that is made and what comes of it, and the maps of a hypothesis's constants, one after another.
-- `Blindness`, `GoalLists`, `GoalsLeft`, `Layers` and `MarkedHeads` serve private contracts.
pub mod Answers
pub mod Blindness
pub mod GoalLists
pub mod GoalReadings
pub mod GoalsLeft
pub mod Layers
pub mod MadeWays
pub mod MapSteps
pub mod MarkedHeads
pub mod RigidHeads
