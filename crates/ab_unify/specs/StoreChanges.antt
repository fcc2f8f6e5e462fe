-- What rules do to a store: it grows, and cells are bound, so that each term reads as its image.
use Rattle.std.specs.Prelude.{◌≡◌, ◌⊎◌, ℕ, List, All, Contains}
use Rattle.ab_term.specs.Types.{Ty}
use Rattle.ab_term.specs.Terms.{Variable, Read}
use Rattle.ab_term.specs.Variables.{image, variables, IsTyped}
use Rattle.ab_term.specs.Sameness.{same_number}
use Rattle.ab_norm.specs.ab_types.specs.Entries.{Table, kinds, constants, signature, IsExtendedBy as IsPartOf}
use Rattle.ab_norm.specs.ab_store.specs.declared.node.TermId.{TermId}
use Rattle.ab_norm.specs.ab_store.specs.declared.node.CellId.{CellId}
use Rattle.ab_norm.specs.ab_store.specs.declared.node.Head.{Head}
use Rattle.ab_norm.specs.ab_store.specs.declared.node.Head.TheVariants.{Nominal, Index}
use Rattle.ab_norm.specs.ab_store.specs.declared.mark.Mark.{Mark}
use Rattle.ab_norm.specs.ab_store.specs.Trees.{Contents, Holds, HoldsCell, cell_of, tree_of}
use Rattle.ab_norm.specs.ab_store.specs.Reading.{reading}
use Rattle.ab_norm.specs.ab_store.specs.Bindings.{IsUnbound}
use Rattle.ab_norm.specs.ab_store.specs.Marks.{HasMark, KeepsMark}
use Rattle.ab_norm.specs.ab_store.specs.Naming.{HeadIsTyped, IsTypedBy, IsTerm}
use Rattle.ab_patterns.specs.ab_unifiers.specs.Replacements.{Change}
pub use Rattle.ab_patterns.specs.Flexible.{others_than}
use Rattle.ab_unify.specs.Problem.{cells_read, variables_read}

-- THE STORE GREW, and cells may have been bound: ids and cells stay what they were, and what marks count is as before. The
-- table got types at most: no kind, no constant
pub record Grows (types : Table) (store : Contents) (more : Table) (now : Contents) : Type 0 where
  pub table : IsPartOf types more
  pub kinds : kinds more ≡ kinds types
  pub constants : constants more ≡ constants types
  pub typed : IsTypedBy more now
  pub trees : (t : TermId) → Holds store t → Holds now t × (tree_of more now t ≡ tree_of types store t)
  pub cells : (c : CellId) → HoldsCell store c → HoldsCell now c × (cell_of now c ≡ cell_of store c)
  pub marks : (m : Mark) → HasMark store m → KeepsMark store now m

-- the cell is there, and may be bound
abbrev pub IsFree : Contents → CellId → Type 0
IsFree store c = HoldsCell store c × IsUnbound store c

-- A CHANGE, CARRIED OUT: from the first store, in which the cells `begun` might be replaced, to the second, in which the cells
-- `flexible` may be: the cells and those that may be replaced are the change's, each term reads as its image, and other cells
-- are bound no more than they were; each of `begun`, and each new one, that is unbound may still be replaced
pub record Changed (types : Table) (store : Contents) (begun : List CellId) (c : Change (List ℕ)) (more : Table) (now : Contents) (flexible : List CellId) : Type 0 where
  pub start : IsTypedBy types store
  pub grows : Grows types store more now
  pub safe : IsTyped (signature more) c.pairs
  pub cells : cells_read more now ≡ c.cells
  pub still : variables_read more now flexible ≡ c.flexible
  pub free : All (IsFree now) flexible
  pub reads : (G : List Ty) (t : TermId) (A : Ty) → IsTerm types store G t A → reading more now t ≡ image same_number c.pairs (reading types store t)
  pub others : (d : CellId) → IsFree store d → ¬ Contains begun d → IsFree now d × (¬ Contains flexible d)
  pub left : (d : CellId) → IsFree now d → (Contains begun d ⊎ (¬ HoldsCell store d)) → Contains flexible d

-- a term of some type over some bound names
abbrev pub IsSomeTerm : Table → Contents → TermId → Type 0
IsSomeTerm types store t = (G : List Ty) × (A : Ty) × IsTerm types store G t A

-- no variable of the term is a bound cell
abbrev pub AllUnbound : Contents → Read → Type 0
AllUnbound store u = (y : Variable ℕ) → Contains (variables u) y → IsUnbound store (record { 0 = y.name })

-- the heads are names, and their types are the table's
abbrev pub IsName : Head → Type 0
IsName (Nominal i a) = Unit {0}
IsName (Index i) = Unit {0}
IsName _ = ⊥

abbrev pub AreNames : Table → List Head → Type 0
AreNames types = All (λ h. HeadIsTyped types h × IsName h)
