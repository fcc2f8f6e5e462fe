pub mod CaseCover
