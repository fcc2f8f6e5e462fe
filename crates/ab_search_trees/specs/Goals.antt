-- THE GOALS OF A SEARCH, with what the branch brings to each; and the variables, of which some may be replaced.
use Rattle.std.specs.Prelude.{ℕ, List, [], ◌∷◌, ◌++◌, map, Bool, true, false}
use Rattle.ab_term.specs.Terms.{Nominal, Variable, Read}
use Rattle.ab_term.specs.Variables.{Substitution, image}
use Rattle.ab_term.specs.Sameness.{same_number}
use Rattle.ab_unifiers.specs.Replacements.{Cell}
use Rattle.ab_unifiers.specs.Choices.{in_order}
use Rattle.ab_formulas.specs.Sequents.{Sequent, formulas, goal_names}

-- A GOAL: the conclusion follows from the hypotheses
pub record Goal : Type 0 where
  pub hypotheses : List Read
  pub conclusion : Read
  -- so many conclusions may still be unfolded, one after another
  pub depth : ℕ
  -- the nominal constants of the branch, in order of number: those of the sequent, and those that were taken on the way
  pub constants : List Nominal
  -- nothing was unfolded and no `exists` opened above it
  pub untouched : Bool
  -- so many layers of a judgement may still be opened
  pub layers : ℕ
  -- it is `exists F, {L, [F] |- A} /\ member F L`, which comes of a judgement, or that without the quantifier: `member F L` is
  -- taken first, so that F is known when the formula in focus is reached
  pub member_first : Bool

-- the goal, put under an answer
abbrev pub goal_under : Substitution ℕ (List ℕ) → Goal → Goal
goal_under q g = record g { hypotheses = map (image same_number q) g.hypotheses; conclusion = image same_number q g.conclusion }

-- the same goal but for its conclusion
abbrev pub asking : Read → Goal → Goal
asking F g = record g { conclusion = F; member_first = false }

-- one hypothesis more, behind the others
abbrev pub assuming : Read → Goal → Goal
assuming F g = record g { hypotheses = g.hypotheses ++ F ∷ [] }

-- THE VARIABLES at a place of the tree: all that were ever made, each known by its place; those that may be replaced, in
-- order of age; what was put in on the way; and the nominal constants that some goal on the way holds
pub record Now : Type 0 where
  pub cells : List (Cell (List ℕ))
  pub flexible : List (Variable ℕ)
  pub answer : Substitution ℕ (List ℕ)
  pub held : List Nominal

-- the layers of judgements that are opened above one goal at most
abbrev pub most_layers : ℕ
most_layers = 1000

-- WHERE THE SEARCH OF A SEQUENT BEGINS, over all variables that were ever made

abbrev pub beginning : List (Cell (List ℕ)) → Sequent → Now
beginning cells s = record { cells = cells; flexible = []; answer = []; held = in_order (goal_names s) }

abbrev pub first_goal : ℕ → Sequent → Goal
first_goal depth s = record {
  hypotheses = formulas s.hypotheses;
  conclusion = s.conclusion;
  depth = depth;
  constants = in_order (goal_names s);
  untouched = true;
  layers = most_layers;
  member_first = false;
}
