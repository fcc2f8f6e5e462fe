-- JUDGEMENTS BY OTHER NUMBERS for variables: what a judgement, a part of a formula in focus and a rule become, and what it is
-- to demand the same then.
use Rattle.std.specs.Prelude.{◌≡◌, ℕ, List, map}
use Rattle.std.specs.Option.{option_map}
use Rattle.ab_term.specs.Variables.{variables, variables_of_all}
use Rattle.ab_unifiers.specs.Renumbering.{renumbered, renumbered_equation}
use Rattle.ab_unifiers.specs.Clauses.{Clause, clause_variables, Within}
use Rattle.ab_theory.specs.Judgements.{Judgement}
use Rattle.ab_theory.specs.Parts.{Part}
use Rattle.ab_theory.specs.SpecRules.{SpecRule, by_clause, by_list, by_opening, by_part, Demand}

module _ (f : ℕ → ℕ) where
  abbrev pub renumbered_judgement : Judgement → Judgement
  renumbered_judgement j = record { sign = j.sign; context = renumbered f j.context; focus = option_map (renumbered f) j.focus; goal = renumbered f j.goal }

  abbrev pub renumbered_part : Part → Part
  renumbered_part p = record { names = p.names; goals = map (renumbered f) p.goals; atom = renumbered f p.atom }

  -- a clause of the program has variables of its own, and a part those of its judgement
  abbrev pub renumbered_rule : SpecRule → SpecRule
  renumbered_rule (by_clause c) = by_clause c
  renumbered_rule by_list = by_list
  renumbered_rule by_opening = by_opening
  renumbered_rule (by_part p) = by_part (renumbered_part p)

  -- THE SECOND DEMANDS WHAT THE FIRST DOES, by these numbers
  pub record DemandsTheSame (a b : Demand) : Type 0 where
    pub passing : b.passing ≡ a.passing
    pub own : b.own ≡ a.own
    pub equations : map (renumbered_equation f) a.equations ≡ b.equations
    pub body : renumbered f a.body ≡ b.body

-- the clause's head and goal hold its own variables
pub record IsClosed (c : Clause (List ℕ)) : Type 0 where
  pub head : Within (variables_of_all c.arguments) (clause_variables c)
  pub body : Within (variables c.body) (clause_variables c)

-- where it is by a clause, that clause is closed
abbrev pub IsClosedRule : SpecRule → Type 0
IsClosedRule (by_clause c) = IsClosed c
IsClosedRule _ = Unit {0}
