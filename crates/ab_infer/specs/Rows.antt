-- Rows of steps that a walk over an expression makes, and what they say of it.
use Rattle.std.specs.Prelude.{◌≡◌, ℕ, ◌+◌, ◌<◌, ◌≤◌, List, [], ◌∷◌, ◌++◌, length, Result, Ok, Err, All}
use Rattle.ab_norm.specs.ab_types.specs.Entries.{Table, kinds, constants, IsExtendedBy}
use Rattle.ab_norm.specs.ab_types.specs.Sound.{IsTable}
use Rattle.ab_norm.specs.ab_store.specs.declared.node.CellEntry.{CellEntry}
use Rattle.ab_norm.specs.ab_store.specs.Trees.{Contents}
use Rattle.ab_norm.specs.ab_store.specs.Naming.{IsTypedBy}
use Rattle.ab_meaning.specs.ResolvedNames.{Name}
use Rattle.ab_meaning.specs.Scopes.{Found}
use Rattle.ab_inference.specs.declared.fault.InferFault.{InferFault}
use Rattle.ab_inference.specs.declared.fault.InferFault.TheVariants.{Unknown, TypeClash, Untyped, Memory}
use Rattle.ab_inference.specs.declared.constraints.Formulas.{Formulas}
use Rattle.ab_inference.specs.declared.op.Op.{Op}
use Rattle.ab_inference.specs.declared.op.Mark as declared
use Rattle.ab_inference.specs.Sketches.{Sketch, bound, known, free, apply, behind, abs, equal, bind, erase, count, Fit, variable_of, marks_of}
use Rattle.ab_inference.specs.Programs.{Item, bound_item, known_item, free_item, apply_item, behind_item, abs_item, equal_item, bind_item, Runs, items_of, OpTyped}
use Rattle.ab_inference.specs.Inferences.{IsFormulas, AreBelow}
use Rattle.ab_inference.specs.Verdicts.{marks_in, mark_of, AreApart}
use Rattle.ab_infer.specs.declared.scope.Scope.{Scope}
use Rattle.ab_infer.specs.NameScopes.{nodes_in, HoldsScope}
use Rattle.ab_infer.specs.NormalTerms.{OpFits}
use Rattle.ab_infer.specs.declared.row.Row.{Row}
use Rattle.ab_infer.specs.Occurrences.{free_names, with_names}

-- the steps that make an expression, those of its parts before its own
abbrev pub steps_of : Sketch → List Item
steps_of (bound i n) = bound_item i n ∷ []
steps_of (known h A) = known_item h A ∷ []
steps_of (free x j p) = free_item x j p ∷ []
steps_of (apply e f) = steps_of e ++ (steps_of f ++ apply_item ∷ [])
steps_of (behind e f) = steps_of e ++ (steps_of f ++ behind_item ∷ [])
steps_of (abs x n p e) = steps_of e ++ abs_item x n p ∷ []
steps_of (equal n e f) = steps_of e ++ (steps_of f ++ equal_item n ∷ [])
steps_of (bind q x n p w e) = steps_of e ++ bind_item q x n p w ∷ []

-- what a walk stands on
pub record IsGround (types : Table) (store : Contents) (formulas : Formulas) (scope : Scope) : Type 0 where
  pub table : IsTable types
  pub typed : IsTypedBy types store
  pub are_formulas : IsFormulas types formulas
  pub holds_scope : HoldsScope types store scope

-- types may be added behind the entries, and nothing else
pub record AddsTypes (old new : Table) : Type 0 where
  pub kept : IsExtendedBy old new
  pub kinds : kinds new ≡ kinds old
  pub constants : constants new ≡ constants old

-- what a table, free names and a number of variables become while the walk goes on
pub record Become (types : Table) (names : List Name) (n : ℕ) (T : Table) (F : List Name) (N : ℕ) : Type 0 where
  pub table : IsExtendedBy types T
  pub more : List Name
  pub names_are : F ≡ names ++ more
  pub variables : n ≤ N

-- The steps and marks are those of the expression, under bound names with these variables: its own are numbered from n on.
pub record AreOf (T : Table) (cells : List CellEntry) (F : List Name) (N : ℕ) (ctx : List ℕ) (n : ℕ) (steps : List Op) (marks : List declared.Mark) (k : Sketch) : Type 0 where
  pub items : items_of T cells F steps ≡ steps_of k
  pub fit : Fit F ctx n k
  pub marks_are : marks_in marks ≡ marks_of k
  pub typed : AreBelow n ctx → All (OpTyped T N (length F)) steps
  pub fits : All (OpFits T cells) steps
  pub within : All (λ m. variable_of N (mark_of m) < N + length F) marks

-- THE ROW GREW BY AN EXPRESSION: the names stand for something, and what was put behind the row is the expression's
pub record Grew (types : Table) (store : Contents) (old new : Row) (found : Found) : Type 0 where
  pub sketch : Sketch
  pub is : found ≡ Ok (erase sketch)
  pub bound : new.bound.items ≡ old.bound.items
  pub steps : List Op
  pub steps_are : new.steps.items ≡ old.steps.items ++ steps
  pub marks : List declared.Mark
  pub marks_are : new.marks.items ≡ old.marks.items ++ marks
  pub names : List Name
  pub names_are : new.names.items ≡ old.names.items ++ names
  pub apart : AreApart old.names.items → AreApart new.names.items
  pub order : new.names.items ≡ with_names old.names.items (free_names (erase sketch))
  pub variables : length new.variables.items ≡ length old.variables.items + count sketch
  pub of : (T : Table) (F : List Name) (N : ℕ) → Become types new.names.items (length new.variables.items) T F N →
      AreOf T store.cells F N (nodes_in old.bound.items) (length old.variables.items) steps marks sketch
  -- each variable and each free name has a step of its own
  pub room : length new.variables.items + length new.names.items + length old.steps.items ≤ length old.variables.items + length old.names.items + length new.steps.items

-- THE ROW MAKES THE EXPRESSION, whose names stand for something
pub record Makes (types : Table) (store : Contents) (row : Row) (found : Found) : Type 0 where
  pub sketch : Sketch
  pub is : found ≡ Ok (erase sketch)
  pub runs : Runs (items_of types store.cells row.names.items row.steps.items) [] (sketch ∷ [])
  pub fit : Fit row.names.items [] 0 sketch
  pub count : length row.variables.items ≡ count sketch
  pub apart : AreApart row.names.items
  -- in the order in which they first stand
  pub order : row.names.items ≡ with_names [] (free_names (erase sketch))
  pub marks : marks_in row.marks.items ≡ marks_of sketch
  pub typed : All (OpTyped types (length row.variables.items) (length row.names.items)) row.steps.items
  pub fits : All (OpFits types store.cells) row.steps.items
  pub within : All (λ m. variable_of (length row.variables.items) (mark_of m) < length row.variables.items + length row.names.items) row.marks.items
  pub room : length row.variables.items + length row.names.items ≤ length row.steps.items

-- why a walk ends early: a name stands for nothing, or there was no memory
abbrev pub Fails : {X : Type 0} → Result X Name → InferFault → Type 0
Fails found (Unknown x) = found ≡ Err x
Fails found (TypeClash p) = ⊥
Fails found (Untyped p) = ⊥
Fails found (Memory m) = Unit {0}
