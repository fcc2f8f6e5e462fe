-- What an expression means, as a typed term; and what is refused of one that means nothing.
-- NAMES: what they stand for, and the expression with its names resolved.
pub mod Scopes
pub mod ResolvedNames
-- READINGS: the typed terms that an expression stands for, whether there are none, one or several, and their normal form.
pub mod Readings
pub mod ReadingCounts
pub mod Types
pub mod Normal
-- Scopes that know what is declared alone, in which a formula says nothing of a goal.
pub mod ClosedScopes
-- Expressions in a goal, and why one is refused.
pub mod Terms
pub mod Refusals
