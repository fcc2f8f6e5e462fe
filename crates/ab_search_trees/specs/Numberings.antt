-- SEARCHES BY OTHER NUMBERS for variables: what a sequent, the variables at a place of the tree, and a leaf become.
use Rattle.std.specs.Prelude.{◌≡◌, ℕ, List, ◌++◌, map, length, drop}
use Rattle.ab_term.specs.Translation.{translate_variable}
use Rattle.ab_unifiers.specs.Replacements.{Cell}
use Rattle.ab_unifiers.specs.Renumbering.{renumbered, renumbered_pairs, IsRenumbering}
use Rattle.ab_formulas.specs.Sequents.{Variable, Hypothesis, Sequent}
use Rattle.ab_search_trees.specs.Goals.{Now}
use Rattle.ab_search_trees.specs.Tree.{Leaf, found, stuck_at, blind}

module _ (f : ℕ → ℕ) where
  -- names stay
  abbrev pub renumbered_variable : Variable → Variable
  renumbered_variable x = record { number = f x.number; type = x.type; name = x.name }

  abbrev pub renumbered_hypothesis : Hypothesis → Hypothesis
  renumbered_hypothesis h = record { name = h.name; formula = renumbered f h.formula }

  abbrev pub renumbered_sequent : Sequent → Sequent
  renumbered_sequent s = record {
    variables = map renumbered_variable s.variables;
    hypotheses = map renumbered_hypothesis s.hypotheses;
    conclusion = renumbered f s.conclusion;
    counter = s.counter;
  }

  -- where the search begins over these cells, and by the other numbers over those: the cells that it makes are the same
  module _ (cells others : List (Cell (List ℕ))) where
    abbrev pub renumbered_now : Now → Now
    renumbered_now now = record {
      cells = others ++ drop (length cells) now.cells;
      flexible = map (translate_variable f) now.flexible;
      answer = renumbered_pairs f now.answer;
      held = now.held;
    }

    abbrev pub renumbered_leaf : Leaf → Leaf
    renumbered_leaf (found now) = found (renumbered_now now)
    renumbered_leaf (stuck_at i) = stuck_at i
    renumbered_leaf blind = blind

-- ONE SEARCH BY TWO NUMBERINGS: over a third list of cells both sequents are one, and the leaves of both are, in order
pub record AreOneSearch (s u : Sequent) (cells others : List (Cell (List ℕ))) (ls ms : List Leaf) : Type 0 where
  pub third : List (Cell (List ℕ))
  pub by : ℕ → ℕ
  pub also : ℕ → ℕ
  pub first : IsRenumbering by cells third
  pub second : IsRenumbering also others third
  pub sequents : renumbered_sequent by s ≡ renumbered_sequent also u
  pub leaves : map (renumbered_leaf by cells third) ls ≡ map (renumbered_leaf also others third) ms
