-- OTHER NUMBERS for the variables of a problem: a function that says which, and what terms, problems and answers become.
use Rattle.std.specs.Prelude.{◌≡◌, ℕ, ◌+◌, List, ◌++◌, map, length, drop, slice_get}
use Rattle.ab_term.specs.Terms.{Term}
use Rattle.ab_term.specs.Translation.{translate_variable, translate}
use Rattle.ab_term.specs.Variables.{Substitution}
use Rattle.ab_unifiers.specs.Replacements.{Cell}
use Rattle.ab_unifiers.specs.Unification.{Equation, State, Answer, unified, apart, stuck}

module _ {Hint : Type 0} where
  -- the term, its variables numbered so
  abbrev pub renumbered : (ℕ → ℕ) → Term ℕ Hint → Term ℕ Hint
  renumbered f = translate f (λ x. x)

  abbrev pub renumbered_equation : (ℕ → ℕ) → Equation Hint → Equation Hint
  renumbered_equation f e = record { place = e.place; left = renumbered f e.left; right = renumbered f e.right }

  abbrev pub renumbered_pairs : (ℕ → ℕ) → Substitution ℕ Hint → Substitution ℕ Hint
  renumbered_pairs f = map (λ p. (translate_variable f p.0, renumbered f p.1))

  -- the state over the other cells
  abbrev pub renumbered_state : (ℕ → ℕ) → List (Cell Hint) → State Hint → State Hint
  renumbered_state f others s = record {
    equations = map (renumbered_equation f) s.equations;
    cells = others;
    flexible = map (translate_variable f) s.flexible;
    pairs = renumbered_pairs f s.pairs;
  }

  -- the answer to the problem over the other cells: the cells that were made are the same
  abbrev pub renumbered_answer : (ℕ → ℕ) → List (Cell Hint) → List (Cell Hint) → Answer Hint → Answer Hint
  renumbered_answer f cells others (unified more s) = unified (others ++ drop (length cells) more) (renumbered_pairs f s)
  renumbered_answer f cells others apart = apart
  renumbered_answer f cells others (stuck n) = stuck n

-- THE FUNCTION GIVES OTHER NUMBERS: to different variables different ones, each the number of the same cell among the
-- others, and to the variables that will be made, in turn, the numbers behind the other cells
pub record IsRenumbering (f : ℕ → ℕ) {Hint : Type 0} (cells others : List (Cell Hint)) : Type 0 where
  pub different : (i j : ℕ) → f i ≡ f j → i ≡ j
  pub same_cells : (i : ℕ) → slice_get others (f i) ≡ slice_get cells i
  pub behind : (k : ℕ) → f (length cells + k) ≡ length others + k
