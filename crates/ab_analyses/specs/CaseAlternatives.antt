-- THAT ALTERNATIVES ARE THE CASES of case analysis, and the ways in which a conclusion is unfolded.
use Rattle.std.specs.Prelude.{◌≡◌, ℕ, List}
use Rattle.ab_unifiers.specs.Replacements.{Cell}
use Rattle.ab_theory.specs.Splits.{Case, CaseOver}
use Rattle.ab_analyses.specs.Alternatives.{Alternative, AlternativeOver}

-- the case has the variables of the alternative, and what must be equal in it
pub record IsCaseBy (c : Case) (a : Alternative) : Type 0 where
  pub before : c.before ≡ a.before
  pub own : c.own ≡ a.own
  pub equations : c.equations ≡ a.equations

-- it does so over whatever variables there are
abbrev pub IsAlwaysBy : CaseOver → AlternativeOver → Type 0
IsAlwaysBy c a = (cells : List (Cell (List ℕ))) → IsCaseBy (c cells) (a cells)
