-- What a world holds of the path to an answer, and of what stands in for its variables. It is said of readings, so it stays while the
-- world grows.
use Rattle.std.specs.Prelude.{◌≢◌, ℕ, List, [], map, Option, All, AllPairs, Contains, IfSome}
use Rattle.ab_term.specs.Types.{Ty, prop}
use Rattle.ab_term.specs.Terms as tree
use Rattle.ab_term.specs.Terms.{Read}
use Rattle.ab_term.specs.Typing.{HasType}
use Rattle.ab_term.specs.Variables.{variables}
use Rattle.ab_norm.specs.ab_store.specs.declared.node.CellId.{CellId}
use Rattle.ab_norm.specs.ab_store.specs.declared.node.TermId.{TermId}
use Rattle.ab_norm.specs.declared.nominal.Nominal.{Nominal}
use Rattle.ab_norm.specs.Nominals.{HoldsNominal}
use Rattle.ab_formulas.specs.Declarations.{signature_in}
use Rattle.ab_logic.specs.Worlds.{Holds, HoldsCell, read, variable_of, declarations_of}
use Rattle.ab_logic.specs.declared.world.World.{World}
use Rattle.ab_search_paths.specs.declared.likeness.StandIn.{StandIn}
use Rattle.ab_search_paths.specs.declared.entries.Entry.{Entry}
use Rattle.ab_search_paths.specs.declared.entries.ClauseTaken.{ClauseTaken}
use Rattle.ab_search_paths.specs.declared.entries.Taken.{Taken}
use Rattle.ab_search_paths.specs.declared.entries.Taken.TheVariants.{Term, Variable, Clause, Rule}

-- a closed term of the type
abbrev pub IsOf : World → TermId → Ty → Type 0
IsOf w t A = Holds w t × HasType (signature_in (declarations_of w)) [] (read w t) A

-- a formula
abbrev pub IsFormulaIn : World → TermId → Type 0
IsFormulaIn w t = IsOf w t prop

-- of some type
abbrev pub IsTermIn : World → TermId → Type 0
IsTermIn w t = (A : Ty) × IsOf w t A

pub record HoldsClause (w : World) (c : ClauseTaken) : Type 0 where
  pub head : Holds w c.head
  pub body : Holds w c.body
  pub names : All (HoldsNominal w.types) c.names.items
  pub values : All (IsTermIn w) c.values.items

-- a variable over these constants
abbrev pub HoldsVariable : World → Option CellId → List Nominal → Type 0
HoldsVariable w cell names = IfSome cell (HoldsCell w) × All (HoldsNominal w.types) names

-- the way's terms, cells and constants are there
abbrev pub HoldsTaken : World → Taken → Type 0
HoldsTaken w (Term t) = IsTermIn w t
HoldsTaken w (Variable cell names) = HoldsVariable w cell names.items
HoldsTaken w (Clause c) = HoldsClause w c
HoldsTaken w (Rule r) = All (IsTermIn w) r.values.items
HoldsTaken w taken = Unit {0}

-- AN ENTRY OF THE PATH: a formula, and a way
pub record HoldsEntry (w : World) (e : Entry) : Type 0 where
  pub conclusion : IsFormulaIn w e.conclusion
  pub taken : HoldsTaken w e.taken

-- a cell, and a term of its type
pub record HoldsStandIn (w : World) (s : StandIn) : Type 0 where
  pub cell : HoldsCell w s.cell
  pub typed : IsOf w s.term (variable_of w s.cell).type

-- the cell doesn't stand in the other's term
abbrev pub IsApart : World → StandIn → StandIn → Type 0
IsApart w s u = Holds w u.term × ¬ Contains (map (λ (x : tree.Variable ℕ). x.name) (variables (read w u.term))) s.cell.0

-- the two stand in for different variables, neither of which stands in the other's term
pub record IsBeside (w : World) (s u : StandIn) : Type 0 where
  pub different : s.cell ≢ u.cell
  pub first : IsApart w s u
  pub second : IsApart w u s

-- WHAT STANDS IN for variables: each for one other, and in no term stands one that it stands in for
pub record AreStandIns (w : World) (list : List StandIn) : Type 0 where
  pub held : All (HoldsStandIn w) list
  pub once : AllPairs (λ (s u : StandIn). s.cell ≢ u.cell) list
  pub apart : All (λ (s : StandIn). All (IsApart w s) list) list
