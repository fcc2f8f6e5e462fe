-- What is made for an alternative on the left, on shared terms.
use Rattle.std.specs.Prelude.{◌≡◌, ℕ, ◌+◌, List, [], ◌∷◌, ◌++◌, map, length, take, drop, All, Contains, codes}
use Rattle.ab_term.specs.Terms.{Nominal, Terms}
use Rattle.ab_term.specs.Names.{support_of_all}
use Rattle.ab_term.specs.Variables.{Substitution, image, image_all}
use Rattle.ab_term.specs.Sameness.{same_number}
use Rattle.ab_norm.specs.ab_types.specs.Entries.{Table}
use Rattle.ab_norm.specs.ab_store.specs.declared.node.TermId.{TermId}
use Rattle.ab_norm.specs.ab_store.specs.declared.node.CellId.{CellId}
use Rattle.ab_norm.specs.ab_store.specs.declared.node.Equation.{Equation}
use Rattle.ab_norm.specs.ab_types.specs.Ids.{type_of}
use Rattle.ab_norm.specs.ab_store.specs.Trees.{Contents, Holds, HoldsCell, cell_of, tree_of}
use Rattle.ab_norm.specs.ab_store.specs.Naming.{IsTerm}
use Rattle.ab_unifiers.specs.Replacements.{Cell}
use Rattle.ab_unifiers.specs.Unification as solve
use Rattle.ab_unify.specs.UnifyAnswers.{IsTypedPair}
use Rattle.ab_unifiers.specs.Clauses.{Each, put_together, filled}
use Rattle.ab_unifiers.specs.Choices.{in_order, outside}
use Rattle.ab_unifiers.specs.Alternatives.{cells_over, made_over, made_terms, arguments_equal}
use Rattle.ab_unify.specs.Problem.{cells_read, variables_read, cells_at}
use Rattle.ab_instances.specs.ListReadings.{trees_at}
use Rattle.ab_instances.specs.declared.raised_variables.Over.{Over}
use Rattle.ab_formulas.specs.Marks.{Sign}
use Rattle.ab_logic.specs.Worlds.{variable_of}
use Rattle.ab_logic.specs.SequentReadings.{sequent_of}
use Rattle.ab_logic.specs.declared.world.World.{World}
use Rattle.ab_logic.specs.declared.sequent.Sequent.{Sequent as Kept}
use Rattle.ab_formulas.specs.BodyMarks.{mark_below, marked_in}
use Rattle.ab_theory.specs.Equations.{changed}
use Rattle.ab_theory.specs.Splits.{Case}
use Rattle.ab_equations.specs.Meanwhile.{count_before}
use Rattle.ab_theory.specs.Atoms.{Choice}
use Rattle.ab_theory.specs.RaisedAlternatives.{raised_cells, raised_to, raised_terms}
use Rattle.ab_alternatives.specs.declared.alternatives.Alternative.{Alternative}

-- the constants of an atom with these arguments; those among the chosen that are new; and those that weren't chosen
abbrev pub constants_in : Terms ℕ (List ℕ) → List Nominal
constants_in ts = in_order (support_of_all ts)

abbrev pub fresh_in : Terms ℕ (List ℕ) → Choice → List Nominal
fresh_in ts c = outside c.names (constants_in ts)

abbrev pub unchosen_in : Terms ℕ (List ℕ) → Choice → List Nominal
unchosen_in ts c = outside (constants_in ts) c.names

-- all variables, with those that are raised; then the clause's own; and what is put in for the clause's
module _ (cells olds : List (Cell (List ℕ))) (ts : Terms ℕ (List ℕ)) (c : Choice) where
  abbrev pub base_in : List (Cell (List ℕ))
  base_in = cells ++ raised_cells (fresh_in ts c) olds

  abbrev pub own_in : List (Cell (List ℕ))
  own_in = cells_over (codes "x") (unchosen_in ts c) c.clause.variables

  abbrev pub filled_in : Substitution ℕ (List ℕ)
  filled_in = filled (codes "x") c.clause (made_terms (codes "x") (length base_in) (unchosen_in ts c) c.clause.variables) c.names

-- one against one
abbrev pub equate : List TermId → List TermId → List Equation
equate [] us = []
equate (t ∷ ts) [] = []
equate (t ∷ ts) (u ∷ us) = record { left = t; right = u } ∷ equate ts us

module _ (types : Table) (store : Contents) where
  -- equations as they stand, numbered from k
  abbrev pub trees_from : ℕ → List Equation → List (solve.Equation (List ℕ))
  trees_from k [] = []
  trees_from k (e ∷ es) = record { place = k; left = tree_of types store e.left; right = tree_of types store e.right } ∷ trees_from (k + 1) es

  -- and with what is put in
  abbrev pub images_from : Substitution ℕ (List ℕ) → ℕ → List Equation → List (solve.Equation (List ℕ))
  images_from s k [] = []
  images_from s k (e ∷ es) = record { place = k; left = image same_number s (tree_of types store e.left); right = image same_number s (tree_of types store e.right) } ∷ images_from s (k + 1) es

  -- the terms for the cells that are raised
  abbrev pub raising : List CellId → Over → Substitution ℕ (List ℕ)
  raising ys over = put_together (variables_read types store (take (length over.terms.items) ys)) (trees_at types store over.terms.items)

-- CELLS ARE RAISED over the new constants, in a store that may have grown since
pub record IsRaised (types : Table) (store : Contents) (ys : List CellId) (fresh : List Nominal) (more : Table) (now : Contents) (over : Over) : Type 0 where
  pub variables : variables_read more now over.cells.items ≡ raised_to (length store.cells) fresh (variables_read types store ys) (cells_at types store ys)
  pub hints : map (λ c. (cell_of now c).hint) over.cells.items ≡ map (λ c. (cell_of store c).hint) ys
  pub held : All (HoldsCell now) over.cells.items
  pub terms : trees_at more now over.terms.items ≡ raised_terms (length store.cells) fresh (cells_at types store ys)
  pub typed : Each (λ c t. IsTerm more now [] t (type_of types (cell_of store c).ty)) (take (length over.terms.items) ys) over.terms.items
  pub apart : All (λ c. ¬ Contains (take (length over.terms.items) ys) c) over.cells.items

-- AN ALTERNATIVE IS MADE, of an atom with these arguments, and a choice
pub record IsMade (types : Table) (store : Contents) (ys : List CellId) (predicates : List (List ℕ)) (sign : Sign) (ts : Terms ℕ (List ℕ)) (c : Choice) (more : Table) (now : Contents) (alt : Alternative) : Type 0 where
  pub cells : cells_read more now ≡ base_in (cells_read types store) (cells_at types store ys) ts c ++ own_in (cells_read types store) (cells_at types store ys) ts c
  pub raised : IsRaised types store ys (fresh_in ts c) more now alt.raised
  pub own : variables_read more now alt.own.items ≡ made_over (codes "x") (length (base_in (cells_read types store) (cells_at types store ys) ts c)) (unchosen_in ts c) c.clause.variables
  pub equations : trees_from more now 0 alt.equations.items
      ≡ arguments_equal (codes "x") 0 ts (image_all same_number (filled_in (cells_read types store) (cells_at types store ys) ts c) c.clause.arguments)
  pub typed : All (IsTypedPair more now) alt.equations.items
  pub body : tree_of more now alt.body ≡ marked_in predicates (mark_below sign) (image same_number (filled_in (cells_read types store) (cells_at types store ys) ts c) c.clause.body)
  pub held : Holds now alt.body

-- what is left of the goal, over these variables, where the term is assumed under the name
abbrev pub goal_for : Kept → List CellId → List ℕ → TermId → Kept
goal_for rest ys name body = record {
  variables = ys;
  hypotheses = rest.hypotheses ++ record { name = name; formula = body } ∷ [];
  conclusion = rest.conclusion;
  counter = rest.counter;
}

-- THE CASE that is solved: the goal and the equations with what is put in for the raised cells
abbrev pub case_put : World → List CellId → Alternative → Kept → Case
case_put w ys alt g =
    let s = raising w.types w.store ys alt.raised in
    record {
      before = take (count_before w alt.own.items) (cells_read w.types w.store);
      own = drop (count_before w alt.own.items) (cells_read w.types w.store);
      equations = images_from w.types w.store s 0 alt.equations.items;
      flexible = variables_read w.types w.store (alt.raised.cells.items ++ alt.own.items);
      goal = changed (image same_number s) (map (variable_of w) g.variables) (sequent_of w g);
    }
