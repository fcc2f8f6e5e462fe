-- What a world holds of what is done at the kernel for a rule of a judgement. Public contracts don't speak of it.
use Rattle.std.specs.Prelude.{All}
use Rattle.ab_norm.specs.Nominals.{HoldsNominal}
use Rattle.ab_logic.specs.Worlds.{Holds}
use Rattle.ab_logic.specs.declared.world.World.{World}
use Rattle.ab_search_paths.specs.declared.terms_of_rules.NameTerm.{NameTerm}
use Rattle.ab_search_paths.specs.declared.terms_of_rules.NameTerm.TheVariants.{Term, Bound}
use Rattle.ab_search.specs.declared.assumed_rows.AssumedRow.{AssumedRow}
use Rattle.ab_search.specs.declared.rule_plans.RuleGoal.{RuleGoal}
use Rattle.ab_search.specs.declared.rule_plans.RulePlan.{RulePlan}
use Rattle.ab_search.specs.declared.rule_plans.RulePlan.TheVariants.{Unfold, Assume, Nothing}
use Rattle.ab_search_paths.specs.Likenesses.{IsLikeness}

-- the term that stands for the name is there
abbrev pub NamesTerm : World → NameTerm → Type 0
NamesTerm w (Term t) = Holds w t
NamesTerm w (Bound n) = Unit {0}

-- the judgement's constants are there, and the constants of the path are one for one those of the goal
pub record HoldsRuleGoal (w : World) (at : RuleGoal) : Type 0 where
  pub constants : All (HoldsNominal w.types) at.constants.items
  pub like : IsLikeness w.types at.like

-- the judgement's constants, the hypothesis's formula and the terms for names are there
pub record HoldsRow (w : World) (row : AssumedRow) : Type 0 where
  pub constants : All (HoldsNominal w.types) row.constants.items
  pub formula : Holds w row.found.formula
  pub names : All (NamesTerm w) row.found.names.items

-- the terms of the plan are there
abbrev pub HoldsPlan : World → RulePlan → Type 0
HoldsPlan w (Unfold u ways) = All (Holds w) u.terms.items
HoldsPlan w (Assume row) = HoldsRow w row
HoldsPlan w Nothing = Unit {0}
