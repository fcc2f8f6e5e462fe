-- States of a session without judgements that coinduction marks.
pub mod UnhashedStates
