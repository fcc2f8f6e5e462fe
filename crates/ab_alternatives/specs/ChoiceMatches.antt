-- HOW THE EQUATIONS OF A CHOICE ARE SOLVED, where a conclusion is to be unfolded by it: which of the variables that the
-- clause brought are left open.
use Rattle.std.specs.Prelude.{◌≡◌, ℕ, ◌-◌, List, [], ◌∷◌, length, take, codes}
use Rattle.ab_term.specs.Variables.{Substitution}
use Rattle.ab_norm.specs.ab_types.specs.Entries.{Table}
use Rattle.ab_norm.specs.ab_store.specs.declared.node.CellId.{CellId}
use Rattle.ab_norm.specs.ab_store.specs.Trees.{Contents, cell_of}
use Rattle.ab_unifiers.specs.Replacements.{Cell}
use Rattle.ab_unifiers.specs.Unification.{State, unified, apart, stuck, Solves}
use Rattle.ab_unify.specs.Problem.{cells_read}
use Rattle.ab_formulas.specs.Sequents.{Variable, Sequent}
use Rattle.ab_theory.specs.Equations.{made}
use Rattle.ab_theory.specs.Splits.{problem_of}
use Rattle.ab_theory.specs.Atoms.{Defined, Choice}
use Rattle.ab_theory.specs.Unfolding.{unfolding_case}
use Rattle.ab_alternatives.specs.declared.choice_matches.Match.{Match}
use Rattle.ab_alternatives.specs.declared.choice_matches.Match.TheVariants.{Closed, Open, Apart, Stuck}

-- the problem is solved, and of the variables that stand behind the first cells these are left open, in order of age
abbrev pub LeavesOpen : State (List ℕ) → List (Cell (List ℕ)) → List Variable → Type 0
LeavesOpen p before left =
    (more : List (Cell (List ℕ))) × (answer : Substitution ℕ (List ℕ)) × Solves (codes "x") p (unified more answer) × (left ≡ made before more answer)

-- so the problem is solved
abbrev pub IsMatch : State (List ℕ) → List (Cell (List ℕ)) → Match → Type 0
IsMatch p before Closed = LeavesOpen p before []
IsMatch p before (Open name) = (y : Variable) × (ys : List Variable) × LeavesOpen p before (y ∷ ys) × (name ≡ y.name)
IsMatch p before Apart = Solves (codes "x") p apart
IsMatch p before (Stuck i) = Solves (codes "x") p (stuck i)

-- SO THE CHOICE UNFOLDS the conclusion of the goal
abbrev pub Matches : List (Cell (List ℕ)) → Sequent → Defined → Choice → Match → Type 0
Matches cells s d c m = IsMatch (problem_of (unfolding_case cells s d c)) cells m

-- WHAT FOLLOWS SERVES PRIVATE CONTRACTS ALONE.

-- the cells but for these, which are the last ones
abbrev pub cells_before : Table → Contents → List CellId → List (Cell (List ℕ))
cells_before types store own = take (length store.cells - length own) (cells_read types store)

-- the first of the cells, if there is one, has the name
abbrev pub TellsOpen : Contents → List CellId → Match → Type 0
TellsOpen store cs Closed = cs ≡ []
TellsOpen store cs (Open name) = (c : CellId) × (rest : List CellId) × (cs ≡ c ∷ rest) × (name ≡ (cell_of store c).hint)
TellsOpen store cs Apart = ⊥
TellsOpen store cs (Stuck i) = ⊥
