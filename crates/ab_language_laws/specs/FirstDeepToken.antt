-- The first of some nestings that is above the limit.
use Rattle.std.specs.Prelude.{ℕ, ◌<◌, ◌≤◌, List, All, length, get_or, take}
use Rattle.ab_grammar.specs.Nesting.{limit}

-- a nesting that the limit allows
abbrev pub IsAllowed : ℕ → Type 0
IsAllowed n = n ≤ limit

-- of these nestings the j-th is above the limit, and none before it is
pub record IsFirstDeep (ns : List ℕ) (j : ℕ) : Type 0 where
  pub within : j < length ns
  pub above : limit < get_or ns j 0
  pub before : All IsAllowed (take j ns)
