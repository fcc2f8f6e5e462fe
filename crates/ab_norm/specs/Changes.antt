-- What walks that make terms do: one form of walk, which differs in what becomes of a head. Only private contracts
-- speak of it; what a caller sees are the operations themselves.
use Rattle.std.specs.Prelude.{◌≡◌, ℕ, List, Some}
use Rattle.ab_term.specs.Terms as tree
use Rattle.ab_term.specs.Terms.{Terms, spine, Read}
use Rattle.ab_term.specs.Substitution.{lower_head, put, reduce, substitute}
use Rattle.ab_term.specs.Reach.{raise_head, raise}
use Rattle.ab_term.specs.Names.{moved_by, rename_head, rename}
use Rattle.ab_store.specs.ab_types.specs.Entries.{Table}
use Rattle.ab_store.specs.ab_types.specs.Ids.{HoldsType, type_of}
use Rattle.ab_store.specs.ab_types.specs.Sound.{IsTable}
use Rattle.ab_store.specs.declared.node.TermId.{TermId}
use Rattle.ab_store.specs.Trees.{Contents, Holds, tree_of}
use Rattle.ab_store.specs.Growth.{IsExtendedBy}
use Rattle.ab_store.specs.Naming.{IsTypedBy}
use Rattle.ab_norm.specs.declared.term_walks.Change.{Change}
use Rattle.ab_norm.specs.declared.term_walks.Change.TheVariants.{Raise, Put, Rename}
use Rattle.ab_norm.specs.declared.memo.Memo.{Memo}
use Rattle.ab_norm.specs.WalkMemory.{answer_of}
use Rattle.ab_norm.specs.Nominals.{pairs_of, HoldsPairs}

module _ (types : Table) (store : Contents) where
  -- what the change makes of a term under that many binders
  abbrev pub changed : Change → ℕ → Read → Read
  changed (Raise by) depth t = raise by depth t
  changed (Put a u) depth t = substitute (type_of types a) (raise depth 0 (tree_of types store u)) depth t
  changed (Rename table) depth t = rename (moved_by (pairs_of types table)) t

  -- what it makes of a head there, given arguments that are changed already
  abbrev pub head_changed : Change → ℕ → tree.Head ℕ → Terms ℕ (List ℕ) → Read
  head_changed (Raise by) depth h ts = spine (raise_head by depth h) ts
  head_changed (Put a u) depth h ts = put (reduce (type_of types a)) (raise depth 0 (tree_of types store u)) (lower_head depth h) ts
  head_changed (Rename table) depth h ts = spine (rename_head (moved_by (pairs_of types table)) h) ts

  -- what is put in is there
  abbrev pub Fits : Change → Type 0
  Fits (Raise by) = Unit {0}
  Fits (Put a u) = HoldsType types a × Holds store u
  Fits (Rename table) = Unit {0}

  -- each answer that is kept is the change of its term
  abbrev pub Remembers : Change → Memo → Type 0
  Remembers change memo = (t r : TermId) (depth : ℕ) → answer_of memo t depth ≡ Some r →
      Holds store t × Holds store r × (tree_of types store r ≡ changed change depth (tree_of types store t))

-- the types that the change writes are the table's
abbrev pub Suits : Table → Change → Type 0
Suits types (Rename table) = IsTable types × HoldsPairs types table
Suits types _ = Unit {0}

-- ids and cells stay and read as before, no cell is added, and what is added is of each table that the store and
-- the change are of
pub record AddsFor (change : Change) (old new : Contents) : Type 0 where
  pub before : IsExtendedBy old new
  pub cells : new.cells ≡ old.cells
  pub typed : (types : Table) → Suits types change → IsTypedBy types old → IsTypedBy types new
