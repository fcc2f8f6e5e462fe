-- FORMULAS WHOSE JUDGEMENTS ARE OPENED: each judgement of a formula that has nothing in focus gives way to its goal, opened. A
-- goal may open further once terms are put in for its variables; formulas are compared past that.
use Rattle.std.specs.Prelude.{◌≡◌, ℕ, List}
use Rattle.ab_term.specs.Logical.{judgement}
use Rattle.ab_term.specs.Terms.{Head, logical, lam, spine, Terms, no_terms, term, Read}
use Rattle.ab_term.specs.Translation.{forget, EqualPastHints}
use Rattle.ab_formulas.specs.Marks.{plain}
use Rattle.ab_theory.specs.Opening.{open_goal}
use Rattle.ab_coverage.specs.VacuousNames.{without_vacuous}

-- `done` is what a head is given, with its judgements opened
abbrev pub full_at : Head ℕ → Terms ℕ (List ℕ) → Terms ℕ (List ℕ) → Read
full_at (logical judgement) (term L (term G no_terms)) done = open_goal plain L G
full_at (logical l) ts done = spine (logical l) done
full_at h ts done = spine h ts

abbrev mutual
  -- THE FORMULA, FULLY OPENED
  pub full : Read → Read
  full (lam A x t) = lam A x (full t)
  full (spine h ts) = full_at h ts (full_all ts)

  pub full_all : Terms ℕ (List ℕ) → Terms ℕ (List ℕ)
  full_all no_terms = no_terms
  full_all (term t ts) = term (full t) (full_all ts)

-- the same once fully opened, past hints
abbrev pub FullyEqual : Read → Read → Type 0
FullyEqual t u = EqualPastHints (full t) (full u)

-- the same besides, once each outermost `exists` whose name doesn't stand in its body is left out
abbrev pub NearlyEqual : Read → Read → Type 0
NearlyEqual t u = without_vacuous (forget (full t)) ≡ without_vacuous (forget (full u))
