-- WHAT A PROOF COMMAND OWES at a goal, whose premises it derives only from this: a theorem that it takes, or the goal, which it admits.
use Rattle.std.specs.Prelude.{ℕ, Bool, true, false, List, [], ◌∷◌}
use Rattle.ab_grammar.specs.CommandTrees as command
use Rattle.ab_grammar.specs.CommandTrees.{ProofCommand}
use Rattle.ab_formulas.specs.Sequents.{Sequent}
use Rattle.ab_theory.specs.Derivations.{Debt, theorem_taken, goal_admitted}
use Rattle.ab_effects.specs.ProofCommands.{is_used}

-- what is taken by a name: nothing, where a hypothesis has it, and else the theorem
abbrev pub taken_unless : Bool → List ℕ → List Debt
taken_unless true H = []
taken_unless false H = theorem_taken H ∷ []

abbrev pub debts_at : Sequent → ProofCommand → List Debt
debts_at s (command.apply H vs is) = taken_unless (is_used s H) H
debts_at s (command.backchain H is) = taken_unless (is_used s H) H
debts_at s command.skip = goal_admitted ∷ []
debts_at s c = []
