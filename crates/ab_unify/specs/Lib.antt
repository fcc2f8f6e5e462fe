-- UNIFICATION OF SHARED TERMS as one call, in the words of `ab_unifiers`.
-- What a problem on shared terms stands for, what `unify` answers, and how many rules lead to an answer.
pub mod Problem
pub mod UnifyAnswers
pub mod RuleCounts
-- What one rule does to a store, and what is told of it.
pub mod StoreChanges
pub mod Outcome
-- Where a run stands, pairs of patterns, and walks that prune: words that only proofs and private contracts speak.
pub mod States
pub mod JoinedPatterns
pub mod Pruning
