-- What is printed of terms and goals, as bytes. A function says how each variable is called.
use Rattle.std.specs.Prelude.{ℕ, List, [], ◌∷◌, ◌++◌, map, codes, decimal}
use Rattle.ab_term.specs.Terms.{Read}
use Rattle.ab_store.specs.Trees.{Contents, cell_of}
use Rattle.ab_formulas.specs.Sequents.{Sequent, Hypothesis}
use Rattle.ab_print.specs.ShapeText.{bytes}
use Rattle.ab_print.specs.NameAssignment.{printed}

-- a variable is called by its cell's name
abbrev pub cell_name : Contents → ℕ → List ℕ
cell_name store n = (cell_of store (record { 0 = n })).hint

-- the variables, each behind a space
abbrev pub names_line : List (List ℕ) → List ℕ
names_line [] = codes "\n"
names_line (x ∷ xs) = codes " " ++ (x ++ names_line xs)

-- a line for them, where there are any
abbrev pub variables_line : List (List ℕ) → List ℕ
variables_line [] = []
variables_line (x ∷ xs) = codes "Variables:" ++ names_line (x ∷ xs)

abbrev pub rule : List ℕ
rule = codes "============================\n"

module _ (name : ℕ → List ℕ) where
  -- THE BYTES of a term
  abbrev pub shown : Read → List ℕ
  shown t = bytes (printed name t)

  -- a conclusion stands on a line of its own, behind a space
  abbrev pub conclusion_line : Read → List ℕ
  conclusion_line t = codes " " ++ (shown t ++ codes "\n")

  -- hypotheses, each with its name on a line of its own
  abbrev pub hypothesis_lines : List Hypothesis → List ℕ
  hypothesis_lines [] = []
  hypothesis_lines (h ∷ hs) = h.name ++ (codes " : " ++ (shown h.formula ++ (codes "\n" ++ hypothesis_lines hs)))

  -- A GOAL
  abbrev pub goal_lines : Sequent → List ℕ
  goal_lines s = variables_line (map (λ x. x.name) s.variables) ++ (hypothesis_lines s.hypotheses ++ (rule ++ conclusion_line s.conclusion))

  -- A GOAL THAT ISN'T THE FIRST: its number, and its conclusion
  abbrev pub other_goal : ℕ → Read → List ℕ
  other_goal number t = codes "Subgoal " ++ (decimal number ++ (codes " is:\n" ++ conclusion_line t))

-- THE FIRST LINE OF A BLOCK: how many commands are kept, and a text where there is one
abbrev pub reply_line : ℕ → List ℕ → List ℕ
reply_line kept [] = codes "[" ++ (decimal kept ++ codes "]\n")
reply_line kept (c ∷ text) = codes "[" ++ (decimal kept ++ (codes "] " ++ ((c ∷ text) ++ codes "\n")))
