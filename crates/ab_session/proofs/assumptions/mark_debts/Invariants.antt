use Rattle.std.specs.Prelude.{◌++◌, ℕ, List, map, take}
use Rattle.ab_logic.specs.Worlds.{declarations_of}
use Rattle.ab_theory.specs.Assumptions.{all_places}
use Rattle.ab_proofcmd.specs.ab_hypothesis.specs.ab_steps.specs.ab_kernel.specs.Debts.{debt_of}
use Rattle.ab_session.specs.PlaceMarks.{Marks}
use Rattle.ab_session.proofs.assumptions.mark_debts.Given as goal

abbrev pub invariant-loop-debt : goal.invariant-loop-debt
invariant-loop-debt l = (js : List ℕ) → Marks l.initial.marks js → Marks l.marks (js ++ all_places (declarations_of l.world) (map debt_of (take l.debt-index l.debts)))
