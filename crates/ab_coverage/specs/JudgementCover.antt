-- THAT CASE ANALYSIS OF A JUDGEMENT LOSES NOTHING: each instance of it under a substitution is met by one of the goals that come of it.
use Rattle.std.specs.Prelude.{ℕ, List, map, length, codes, Option, Some, None, Contains}
use Rattle.ab_term.specs.Types.{Ty}
use Rattle.ab_term.specs.Terms.{Read}
use Rattle.ab_term.specs.Typing.{Signature}
use Rattle.ab_term.specs.Translation.{EqualPastHints}
use Rattle.ab_term.specs.Variables.{Substitution, image, IsTyped}
use Rattle.ab_term.specs.Sameness.{same_number}
use Rattle.ab_unifiers.specs.Replacements.{Cell}
use Rattle.ab_unifiers.specs.Unification.{Answer, unified, apart, stuck, Solves}
use Rattle.ab_unifiers.specs.Unifiers.{AreKnown}
use Rattle.ab_unifiers.specs.Alternatives.{Scope}
use Rattle.ab_unifiers.specs.InstanceCover.{IsOf}
use Rattle.ab_formulas.specs.Marks.{plain}
use Rattle.ab_formulas.specs.Sequents.{Sequent, in_terms}
use Rattle.ab_theory.specs.Analysis.{scope_of}
use Rattle.ab_theory.specs.Judgements.{Judgement}
use Rattle.ab_theory.specs.JudgementCases.{judgement_case}
use Rattle.ab_theory.specs.SpecRules.{SpecRule, demand_of}
use Rattle.ab_theory.specs.Equations.{Naming}
use Rattle.ab_theory.specs.Splits.{problem_of, Arises}

abbrev pub focus_under : Substitution ℕ (List ℕ) → Option Read → Option Read
focus_under q None = None
focus_under q (Some F) = Some (image same_number q F)

-- the judgement under a substitution
abbrev pub judgement_under : Substitution ℕ (List ℕ) → Judgement → Judgement
judgement_under q j = record { sign = j.sign; context = image same_number q j.context; focus = focus_under q j.focus; goal = image same_number q j.goal }

-- WHAT COVER ASKS of a case with this body, by the answer to its equations, for a substitution q and a body: that it isn't apart; and where
-- it is unified, that some substitution gives of the case's body, under the answer, this one, and of each other formula of the goal,
-- under the answer, what q makes of it. Where the answer is stuck the whole step is refused. `like` compares bodies.
abbrev pub AnswerMeets : (Read → Read → Type 0) → Signature → Scope (List ℕ) → Read → Answer (List ℕ) → Substitution ℕ (List ℕ) → Read → Type 0
AnswerMeets like sg scope b apart q B = ⊥
AnswerMeets like sg scope b (stuck i) q B = Unit {0}
AnswerMeets like sg scope b (unified more answer) q B = (r : Substitution ℕ (List ℕ)) × IsTyped sg r
    × like (image same_number r (image same_number answer b)) B
    × ((F : Read) (A : Ty) → IsOf sg scope F A → EqualPastHints (image same_number r (image same_number answer F)) (image same_number q F))

-- THE RULE MEETS the substitution and the body: over whatever cells there are when its case is made, and whatever the answer is. The body
-- is that of the rule without marks.
abbrev pub RuleMeets : (Read → Read → Type 0) → Signature → Sequent → Sequent → List ℕ → Substitution ℕ (List ℕ) → Read → Judgement → SpecRule → Type 0
RuleMeets like sg s t name q B j r = (cells : List (Cell (List ℕ))) → AreKnown cells (map in_terms s.variables)
    → (a : Answer (List ℕ)) → Solves (codes "x") (problem_of (judgement_case s t name j r cells)) a
    → AnswerMeets like sg (scope_of cells s) (demand_of (length cells) plain j r).body a q B

-- THE GOAL MEETS the substitution and the body: it is that of a rule, whose equations have an answer. Another substitution then gives of the
-- rule's body, under the answer, this body, and of each formula of the goal that was split, under the answer, what q makes of it.
pub record Meets (like : Read → Read → Type 0) (sg : Signature) (IsName : Naming) (s t : Sequent) (name : List ℕ) (j : Judgement) (q : Substitution ℕ (List ℕ)) (B : Read) (g : Sequent) : Type 0 where
  pub rule : SpecRule
  pub cells : List (Cell (List ℕ))
  pub after : List (Cell (List ℕ))
  pub arises : Arises IsName (judgement_case s t name j rule cells) after g
  pub then : Substitution ℕ (List ℕ)
  pub typed : IsTyped sg then
  pub body : like (image same_number then (image same_number arises.answer (demand_of (length cells) plain j rule).body)) B
  pub formulas : (F : Read) (A : Ty) → IsOf sg (scope_of cells s) F A → EqualPastHints (image same_number then (image same_number arises.answer F)) (image same_number q F)

-- one of the goals does so
abbrev pub IsMetByOne : (Read → Read → Type 0) → Signature → Naming → Sequent → Sequent → List ℕ → Judgement → List Sequent → Substitution ℕ (List ℕ) → Read → Type 0
IsMetByOne like sg IsName s t name j gs q B = (g : Sequent) × Contains gs g × Meets like sg IsName s t name j q B g
