mod Stepping
mod StepTypes
pub mod Holding
