-- Problems on shared terms, as plain ones: terms are what their ids read as, and cells are the variables.
use Rattle.std.specs.Prelude.{ℕ, ◌+◌, List, [], ◌∷◌, map}
use Rattle.ab_term.specs.Terms.{Variable}
use Rattle.ab_norm.specs.ab_types.specs.Entries.{Table}
use Rattle.ab_norm.specs.ab_types.specs.Ids.{type_of}
use Rattle.ab_norm.specs.ab_store.specs.declared.node.CellId.{CellId}
use Rattle.ab_norm.specs.ab_store.specs.declared.node.CellEntry.{CellEntry}
use Rattle.ab_norm.specs.ab_store.specs.declared.node.Equation.{Equation}
use Rattle.ab_norm.specs.ab_store.specs.Trees.{Contents, cell_of}
use Rattle.ab_norm.specs.ab_store.specs.Reading.{reading, cell_variable}
use Rattle.ab_patterns.specs.ab_unifiers.specs.Replacements.{Cell}
use Rattle.ab_patterns.specs.ab_unifiers.specs.Unification as solve
use Rattle.ab_patterns.specs.ab_unifiers.specs.Unifiers.{given}

-- the hint and the type of a cell
abbrev pub cell_read : Table → CellEntry → Cell (List ℕ)
cell_read types c = record { hint = c.hint; type = type_of types c.ty }

module _ (types : Table) (store : Contents) where
  -- all cells, in order
  abbrev pub cells_read : List (Cell (List ℕ))
  cells_read = map (cell_read types) store.cells

  -- hints and types of cells
  abbrev pub cells_at : List CellId → List (Cell (List ℕ))
  cells_at = map (λ c. cell_read types (cell_of store c))

  -- cells as variables
  abbrev pub variables_read : List CellId → List (Variable ℕ)
  variables_read = map (cell_variable types store)

  -- the equations, numbered from k
  abbrev pub equations_from : ℕ → List Equation → List (solve.Equation (List ℕ))
  equations_from k [] = []
  equations_from k (e ∷ es) = record { place = k; left = reading types store e.left; right = reading types store e.right } ∷ equations_from (k + 1) es

  abbrev pub equations_read : List Equation → List (solve.Equation (List ℕ))
  equations_read = equations_from 0

  -- THE PROBLEM: these equations, over all cells, of which these may be replaced
  abbrev pub problem : List Equation → List CellId → solve.State (List ℕ)
  problem es flexible = given (equations_read es) cells_read (variables_read flexible)
