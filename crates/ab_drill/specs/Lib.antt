-- what has to be believed: the generated script, and the line that sums up how it went
pub mod Drill
pub mod Summary
