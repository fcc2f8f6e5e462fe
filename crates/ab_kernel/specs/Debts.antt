-- What the steps of a proof owe, as the proof keeps it.
use Rattle.std.specs.Prelude.{List, [], ◌∷◌, ◌++◌, map, reverse, Option, Some, None}
use Rattle.ab_logic.specs.declared.world.World.{World}
use Rattle.ab_theory.specs.Derivations.{Debt, theorem_taken, goal_admitted, debts_of}
use Rattle.ab_kernel.specs.declared.debt.Debt.{Debt as Kept}
use Rattle.ab_kernel.specs.declared.debt.Debt.TheVariants.{Theorem, Goal}
use Rattle.ab_rules.specs.declared.step.Step.{Step}
use Rattle.ab_rules.specs.RuleAnswers.{step_of}

-- the debt that a kept one stands for
abbrev pub debt_of : Kept → Debt
debt_of (Theorem n) = theorem_taken n
debt_of Goal = goal_admitted

-- what is owed by kept debts, the latest first
abbrev pub owed : List Kept → List Debt
owed ks = map debt_of (reverse ks)

-- what is owed by the step, if there is one
abbrev pub owed_at : World → Option Step → List Debt
owed_at w None = []
owed_at w (Some step) = debts_of (step_of w step)
