-- What becomes of two patterns of different variables. Only private contracts speak of this.
use Rattle.std.specs.Prelude.{ℕ, List, cond}
use Rattle.std.specs.List.{list_all}
use Rattle.ab_term.specs.Terms.{Variable, Head}
use Rattle.ab_term.specs.Abstraction.{among}
use Rattle.ab_patterns.specs.ab_unifiers.specs.Patterns.{applied}
use Rattle.ab_patterns.specs.ab_unifiers.specs.Replacements.{Cell, Change}
use Rattle.ab_patterns.specs.ab_unifiers.specs.Unification.{begun, put_in, joined_at}

-- z becomes y, where all names of y are among z's; else y becomes z, where all of z's are among y's; else both become a
-- new variable over the common names
abbrev pub two_joined : {Hint : Type 0} → Hint → List (Cell Hint) → List (Variable ℕ) → Variable ℕ → List (Head ℕ) → Variable ℕ → List (Head ℕ) → Change Hint
two_joined x cells ys y names z others =
    cond (list_all (among others) names) (put_in x cells ys z others (applied x y names) (begun x cells ys z))
    (cond (list_all (among names) others) (put_in x cells ys y names (applied x z others) (begun x cells ys y))
    (joined_at x cells ys y names z others))
