-- WHAT IS KNOWN of a way by a clause on the path of an answer.
pub mod Paths
