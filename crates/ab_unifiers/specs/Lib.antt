-- Unification and case analysis on plain trees, apart from any program.
-- UNIFICATION, in Miller's terms: patterns, the rules, and that their answer is a most general unifier.
pub mod Patterns
pub mod Replacements
pub mod Unification
pub mod Unifiers
pub mod Examples
-- CASE ANALYSIS of a defined atom: clauses and their instances, the choices of nominal constants, the alternatives of
-- an atom as problems of unification, and what it is that these cover all instances.
pub mod Clauses
pub mod Choices
pub mod Alternatives
pub mod InstanceCover
pub mod CaseCoverage
pub mod Premises
pub mod Member
pub mod Prefixes
pub mod CaseExamples
-- Other numbers for the variables of a problem.
pub mod Renumbering
