-- What the heads of steps and of free names have to be, and the normal form that the steps make.
use Rattle.std.specs.Prelude.{◌≡◌, ℕ, ◌+◌, ◌<◌, List, [], length, get_or, Some}
use Rattle.ab_term.specs.Types.{Ty}
use Rattle.ab_term.specs.Typing.{head_type}
use Rattle.ab_norm.specs.ab_types.specs.Entries.{Table, signature}
use Rattle.ab_norm.specs.ab_types.specs.Ids.{HoldsType, type_of}
use Rattle.ab_norm.specs.ab_store.specs.declared.node.Head.{Head}
use Rattle.ab_norm.specs.ab_store.specs.declared.node.Head.TheVariants.{Index}
use Rattle.ab_norm.specs.ab_store.specs.declared.node.TermId.{TermId}
use Rattle.ab_norm.specs.ab_store.specs.declared.node.CellEntry.{CellEntry}
use Rattle.ab_norm.specs.ab_store.specs.Trees.{Contents, Holds, head_in, tree_of}
use Rattle.ab_norm.specs.ab_store.specs.Naming.{HeadNames, HeadIsTyped}
use Rattle.ab_meaning.specs.ResolvedNames.{Name}
use Rattle.ab_meaning.specs.Readings.{Making}
use Rattle.ab_meaning.specs.Normal.{normal_form}
use Rattle.ab_inference.specs.declared.assignments.Settled.{Settled}
use Rattle.ab_inference.specs.Assignments.{settled_at}
use Rattle.ab_inference.specs.Sketches.{Sketch, term_of}
use Rattle.ab_inference.specs.Verdicts.{types_found}
use Rattle.ab_inference.specs.declared.op.Op.{Op}
use Rattle.ab_inference.specs.declared.op.Op.TheVariants as op

-- the head is there, and has the type whatever names are bound around it
pub record HasHeadType (types : Table) (cells : List CellEntry) (h : Head) (A : Ty) : Type 0 where
  pub held : HeadNames (length cells) h
  pub typed : HeadIsTyped types h
  pub is : (G : List Ty) → head_type (signature types) G (head_in types cells h) ≡ Some A

-- a head that the step names has the type that the step gives it
abbrev pub OpFits : Table → List CellEntry → Op → Type 0
OpFits types cells (op.Known h id) = HasHeadType types cells h (type_of types id)
OpFits types cells _ = Unit {0}

abbrev pub head_at : List Head → ℕ → Head
head_at heads j = get_or heads j (Index 0)

-- the head of each free name has the type that is found for the name
abbrev pub AreFreeHeads : Table → List CellEntry → ℕ → List Settled → List Head → Type 0
AreFreeHeads types cells base found heads = (j : ℕ) → j < length heads → HasHeadType types cells (head_at heads j) (types_found types found (base + j))

-- all types that are found are there
abbrev pub AreTypes : Table → List Settled → Type 0
AreTypes types found = (i : ℕ) → i < length found → HoldsType types (settled_at found i).ty

-- free names, the numbers of which are their places in the list, become these heads
abbrev pub BecomeHeads : Table → List CellEntry → ℕ → (ℕ → Ty) → Making → List Name → List Head → Type 0
BecomeHeads types cells base v made names heads =
    (j : ℕ) → j < length names → (j < length heads) × (head_in types cells (head_at heads j) ≡ made (get_or names j []) (v (base + j)))

-- THE TERM IS BUILT: it is the normal form of what the expression is under the types that were found
pub record IsBuilt (types : Table) (store : Contents) (base : ℕ) (v : ℕ → Ty) (made : Making) (k : Sketch) (t : TermId) : Type 0 where
  pub held : Holds store t
  pub is : tree_of types store t ≡ normal_form (signature types) [] (term_of base v made k)
