-- What the bytes of a command say, where a proof is open or none is.
pub mod Supported
pub mod CommandReadings
