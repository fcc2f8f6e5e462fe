-- Goals without judgements that coinduction marks.
pub mod Unhashed
