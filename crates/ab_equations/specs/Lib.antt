-- Equations of a goal, and names for what is new.
-- What the program's labels stand for.
pub mod Labels
-- A world while cells are bound: which case of a goal stands in it.
pub mod Meanwhile
pub use Rattle.ab_free_names
