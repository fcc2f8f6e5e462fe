-- A world while cells are bound: what case of a goal stands in it, and what a call leaves. What serves private contracts alone
-- stands behind that.
use Rattle.std.specs.Prelude.{◌≡◌, ◌≢◌, ℕ, ◌+◌, ◌-◌, ◌≤◌, List, [], ◌∷◌, ◌++◌, map, length, take, drop, filter, is_none, Bool, All}
use Rattle.ab_term.specs.Variables.{Substitution, one_by_one}
use Rattle.ab_term.specs.Sameness.{same_number}
use Rattle.ab_norm.specs.ab_types.specs.Entries.{Table, IsExtendedBy, first_entries}
use Rattle.ab_norm.specs.ab_store.specs.declared.node.CellId.{CellId}
use Rattle.ab_norm.specs.ab_store.specs.declared.node.Equation.{Equation}
use Rattle.ab_term.specs.Terms.{Read}
use Rattle.ab_norm.specs.ab_store.specs.Trees.{Contents, tree_of}
use Rattle.ab_norm.specs.ab_store.specs.Reading.{binding_of, pairs, reading}
use Rattle.ab_norm.specs.ab_store.specs.Naming.{IsTypedBy}
use Rattle.ab_unify.specs.Problem.{cells_read, variables_read, equations_read}
use Rattle.ab_unify.specs.StoreChanges.{Grows}
use Rattle.ab_formulas.specs.Sequents.{Variable, Hypothesis, Sequent, in_terms, over}
use Rattle.ab_logic.specs.Worlds.{variable_of, CameInOrder, IsKept, declarations_of}
use Rattle.ab_logic.specs.SequentReadings.{sequent_of, HoldsSequent}
use Rattle.ab_formulas.specs.NewNames.{IsNamedFor}
use Rattle.ab_logic.specs.declared.world.World.{World}
use Rattle.ab_logic.specs.declared.additions.Added.{Added}
use Rattle.ab_logic.specs.declared.sequent.Sequent.{Sequent as Kept}
use Rattle.ab_logic.specs.declared.sequent.Hypothesis.{Hypothesis as KeptHypothesis}
use Rattle.ab_theory.specs.Equations.{Named, variable_term, renaming, changed}
use Rattle.ab_theory.specs.Splits.{Case, cell_for}

-- all that is true of every world, but that no cell is bound
pub record IsMeanwhile (w : World) : Type 0 where
  pub begins : IsExtendedBy first_entries w.types
  pub typed : IsTypedBy w.types w.store
  pub additions : All (λ (a : Added). IsKept w.types w.store a.what) w.additions
  pub order : CameInOrder w.types 0 w.additions

-- what a call leaves: types, terms and cells are added at most, and just those cells are bound that were before
pub record ComesBack (old new : World) : Type 0 where
  pub grows : Grows old.types old.store new.types new.store
  pub bindings : new.store.bindings ≡ old.store.bindings
  pub additions : new.additions ≡ old.additions

module _ (types : Table) (store : Contents) where
  -- a hypothesis as it stands, and with the bindings put in
  abbrev pub hypothesis_at : KeptHypothesis → Hypothesis
  hypothesis_at h = record { name = h.name; formula = tree_of types store h.formula }

  abbrev pub hypothesis_read : KeptHypothesis → Hypothesis
  hypothesis_read h = record { name = h.name; formula = reading types store h.formula }

-- these are the cells from number n on, in the order of their making
abbrev pub AreFrom : Contents → ℕ → List CellId → Type 0
AreFrom store n [] = n ≡ length store.cells
AreFrom store n (c ∷ cs) = (c.0 ≡ n) × AreFrom store (n + 1) cs

module _ (w : World) where
  -- the goal with what cells are bound to in their places
  abbrev pub goal_read : Kept → Sequent
  goal_read s = record {
    variables = map (variable_of w) s.variables;
    hypotheses = map (hypothesis_read w.types w.store) s.hypotheses;
    conclusion = reading w.types w.store s.conclusion;
    counter = s.counter;
  }

  -- how many cells there were before these, which are the last ones
  abbrev pub count_before : List CellId → ℕ
  count_before own = length w.store.cells - length own

  -- A CASE OF THE GOAL: these equations, and the flexible cells; the last cells are the case's own
  abbrev pub case_read : List Equation → List CellId → List CellId → Kept → Case
  case_read es flexible own s = record {
    before = take (count_before own) (cells_read w.types w.store);
    own = drop (count_before own) (cells_read w.types w.store);
    equations = equations_read w.types w.store es;
    flexible = variables_read w.types w.store flexible;
    goal = goal_read s;
  }

-- WHAT FOLLOWS SERVES PRIVATE CONTRACTS ALONE.

-- terms and cells are added, and cells may get bound
pub record GoesOn (old new : World) : Type 0 where
  pub types : new.types ≡ old.types
  pub additions : new.additions ≡ old.additions
  pub grows : Grows old.types old.store new.types new.store

-- the variable's cell is bound to nothing
abbrev pub is_left : Contents → Variable → Bool
is_left store x = is_none (binding_of store (record { 0 = x.number }))

abbrev pub unbound_of : Contents → List CellId → List CellId
unbound_of store cs = filter (λ c. is_none (binding_of store c)) cs

-- the bindings of the world, put in one after another
abbrev pub bound_in : World → Substitution ℕ (List ℕ)
bound_in w = pairs w.types w.store

abbrev pub put_in : World → Read → Read
put_in w F = one_by_one same_number (bound_in w) F

-- the goal with more variables
abbrev pub over_all : List Variable → Sequent → Sequent
over_all ys s = record { variables = s.variables ++ ys; hypotheses = s.hypotheses; conclusion = s.conclusion; counter = s.counter }

-- A NEW VARIABLE STANDS FOR THE CELL, which is bound to it; the goal is over it then
pub record StandsFor (w : World) (c : CellId) (s : Kept) (v : World) (g : Kept) : Type 0 where
  pub new : CellId
  pub number : new.0 ≡ length w.store.cells
  pub one : length v.store.cells ≡ length w.store.cells + 1
  pub type : (variable_of v new).type ≡ (variable_of w c).type
  pub named : IsNamedFor (declarations_of w) (sequent_of w s) (variable_of w c).name (variable_of v new).name
  pub held : HoldsSequent v g
  pub goal : sequent_of v g ≡ over (variable_of v new) (sequent_of w s)
  pub pairs : bound_in v ≡ bound_in w ++ (in_terms (variable_of w c), variable_term (variable_of v new)) ∷ []
  pub others : (d : CellId) → d.0 ≢ c.0 → binding_of v.store d ≡ binding_of w.store d
  pub room : w.store.room ≤ v.store.room + 1

-- NEW VARIABLES STAND FOR THESE, whose cells are bound to them; the goal is over them then
pub record StandForAll (w : World) (xs : List Variable) (s : Kept) (v : World) (g : Kept) : Type 0 where
  pub new : List Variable
  pub named : Named (IsNamedFor (declarations_of w)) (sequent_of w s) (length w.store.cells) xs new
  pub held : HoldsSequent v g
  pub goal : sequent_of v g ≡ over_all new (sequent_of w s)
  pub pairs : bound_in v ≡ bound_in w ++ renaming xs new
  pub cells : cells_read v.types v.store ≡ cells_read w.types w.store ++ map cell_for new
  pub others : (d : CellId) → All (λ (x : Variable). d.0 ≢ x.number) xs → binding_of v.store d ≡ binding_of w.store d

-- THE GOAL WITH THE BINDINGS PUT IN, over those of its variables that are left
abbrev pub IsPutIn : World → Kept → World → Kept → Type 0
IsPutIn w s v g = sequent_of v g ≡ changed (put_in w) (filter (is_left w.store) (sequent_of w s).variables) (sequent_of w s)

-- THE GOAL IS CARRIED OVER: with the bindings put in, and then new variables for those that were made and are left, which
-- are the cells that are added
abbrev pub IsCarried : World → List CellId → Kept → World → Kept → Type 0
IsCarried w made s v g =
    let xs = filter (is_left w.store) (map (variable_of w) made) in
    (ys : List Variable) × Named (IsNamedFor (declarations_of w)) (sequent_of w s) (length w.store.cells) xs ys
    × (sequent_of v g ≡ changed (λ F. one_by_one same_number (renaming xs ys) (put_in w F)) (filter (is_left w.store) (sequent_of w s).variables ++ ys) (sequent_of w s))
    × (cells_read v.types v.store ≡ cells_read w.types w.store ++ map cell_for ys)
