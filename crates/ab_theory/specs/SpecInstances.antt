-- WHAT IT IS FOR A JUDGEMENT TO BE AN INSTANCE of a rule: a guess of terms, without unification.
use Rattle.std.specs.Prelude.{◌≡◌, ◌<◌, ◌+◌, ℕ, List, length, All, Contains, Option, Some, None}
use Rattle.ab_term.specs.Terms as tree
use Rattle.ab_term.specs.Typing.{Signature}
use Rattle.ab_term.specs.Translation.{EqualPastHints}
use Rattle.ab_term.specs.Variables.{Substitution, image, variables}
use Rattle.ab_term.specs.Sameness.{same_number}
use Rattle.ab_term.specs.Terms.{Read}
use Rattle.ab_unifiers.specs.Unification.{Equation}
use Rattle.ab_unifiers.specs.Clauses.{AreFor, numbered, put_together}
use Rattle.ab_formulas.specs.Marks.{plain}
use Rattle.ab_theory.specs.Judgements.{Judgement}
use Rattle.ab_formulas.specs.Programs.{Program}
use Rattle.ab_theory.specs.SpecRules.{SpecRule, rules_of, Demand, demand_of}

-- the equation holds with these terms put in
abbrev pub HoldsUnder : Substitution ℕ (List ℕ) → Equation (List ℕ) → Type 0
HoldsUnder s e = EqualPastHints (image same_number s e.left) (image same_number s e.right)

-- the number is above those of the variables of the term
abbrev pub IsAbove : ℕ → Read → Type 0
IsAbove n t = All (λ (y : tree.Variable ℕ). y.name < n) (variables t)

abbrev pub IsAboveFocus : ℕ → Option Read → Type 0
IsAboveFocus n None = Unit {0}
IsAboveFocus n (Some F) = IsAbove n F

-- the number of the first own variable
abbrev pub first_own : ℕ → Demand → ℕ
first_own n a = n + length a.passing

-- INSTANCE: by some rule, whose variables are numbered above those of the judgement, some terms for these make its equations
-- true, and the body this one, past hints. Goals are opened before the terms are put in.
pub record IsInstance (sg : Signature) (cs : Program) (j : Judgement) (B : Read) : Type 0 where
  pub rules : List SpecRule
  pub known : rules_of cs j ≡ Some rules
  pub rule : SpecRule
  pub one : Contains rules rule
  pub number : ℕ
  pub above_context : IsAbove number j.context
  pub above_focus : IsAboveFocus number j.focus
  pub above_goal : IsAbove number j.goal
  pub terms : List Read
  pub for_variables : AreFor sg (numbered (first_own number (demand_of number plain j rule)) (demand_of number plain j rule).own) terms
  pub equal : All (HoldsUnder (put_together (numbered (first_own number (demand_of number plain j rule)) (demand_of number plain j rule).own) terms)) (demand_of number plain j rule).equations
  pub body : EqualPastHints (image same_number (put_together (numbered (first_own number (demand_of number plain j rule)) (demand_of number plain j rule).own) terms) (demand_of number plain j rule).body) B
