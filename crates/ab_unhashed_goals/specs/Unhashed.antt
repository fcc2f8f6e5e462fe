-- GOALS WITHOUT COINDUCTIVE JUDGEMENTS: coinduction marks atoms alone, so that no judgement of a goal is ever marked `#`.
use Rattle.std.specs.Prelude.{◌≡◌, ℕ, List, Some, All}
use Rattle.ab_term.specs.Terms.{Read}
use Rattle.ab_formulas.specs.Declarations.{Declarations, theorem_in}
use Rattle.ab_formulas.specs.NamedGoals.{Goal, named}
use Rattle.ab_formulas.specs.Sequents.{Hypothesis, Sequent}
use Rattle.ab_search_answers.specs.Unmarked.{HasNoHash}

-- NO JUDGEMENT OF THE GOAL IS MARKED `#`, in the conclusion or in a hypothesis
pub record NoJudgementIsHashed (s : Sequent) : Type 0 where
  pub conclusion : HasNoHash s.conclusion
  pub hypotheses : All (λ (h : Hypothesis). HasNoHash h.formula) s.hypotheses

-- nor one of a theorem
abbrev pub NoTheoremIsHashed : Declarations → Type 0
NoTheoremIsHashed D = (x : List ℕ) (F : Read) → theorem_in D x ≡ Some F → HasNoHash F

-- nor one of a goal that is told by names, whatever numbers its variables have
abbrev pub IsUnhashed : Goal → Type 0
IsUnhashed g = (s : Sequent) → g ≡ named s → NoJudgementIsHashed s
