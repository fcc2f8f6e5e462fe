-- what has to be believed
pub mod FileNames
pub mod FileTexts
pub mod FileLoads
pub mod FileOrder
pub mod Outcomes
-- tools of the private functions' clauses
pub mod Texts
pub mod Readings
-- what a model needs whose value holds files that were read
pub mod Codes
