-- What is printed of a goal whose variables are names, as bytes.
use Rattle.std.specs.Prelude.{ℕ, List, [], ◌∷◌, ◌++◌, map, codes, decimal}
use Rattle.ab_print.specs.ShapeText.{bytes}
use Rattle.ab_print.specs.NameAssignment.{printed}
use Rattle.ab_print.specs.GoalText.{variables_line, rule}
use Rattle.ab_formulas.specs.NamedGoals.{Named, Hypothesis, Goal}

-- THE BYTES of a term: a variable is printed as its name
abbrev pub shown : Named → List ℕ
shown t = bytes (printed (λ x. x) t)

-- a conclusion stands on a line of its own, behind a space
abbrev pub conclusion_line : Named → List ℕ
conclusion_line t = codes " " ++ (shown t ++ codes "\n")

-- hypotheses, each with its name on a line of its own
abbrev pub hypothesis_lines : List Hypothesis → List ℕ
hypothesis_lines [] = []
hypothesis_lines (h ∷ hs) = h.name ++ (codes " : " ++ (shown h.formula ++ (codes "\n" ++ hypothesis_lines hs)))

-- THE CURRENT GOAL: a line for its variables, one for each hypothesis, a rule, and the conclusion
abbrev pub goal_lines : Goal → List ℕ
goal_lines g = variables_line (map (λ x. x.name) g.variables) ++ (hypothesis_lines g.hypotheses ++ (rule ++ conclusion_line g.conclusion))

-- A GOAL BEHIND IT: its number, and its conclusion
abbrev pub other_goal : ℕ → Goal → List ℕ
other_goal number g = codes "Subgoal " ++ (decimal number ++ (codes " is:\n" ++ conclusion_line g.conclusion))
