-- Stores that terms are carried over to from another.
use Rattle.std.specs.Prelude.{◌≡◌, Some}
use Rattle.ab_store.specs.ab_types.specs.Entries.{Table}
use Rattle.ab_store.specs.declared.node.TermId.{TermId}
use Rattle.ab_store.specs.Trees.{Contents, Holds, tree_of}
use Rattle.ab_store.specs.Reading.{pairs}
use Rattle.ab_norm.specs.declared.memo.Memo.{Memo}
use Rattle.ab_norm.specs.WalkMemory.{answer_of}

-- each answer that is kept is a term of the second store that has the tree of its key in the first
abbrev pub Carries : Table → Contents → Contents → Memo → Type 0
Carries types store apart memo = (t r : TermId) → answer_of memo t 0 ≡ Some r → Holds apart r × (tree_of types apart r ≡ tree_of types store t)

-- the second store has the cells of the first, and they are bound to the same trees in the same order
pub record HasSameBindings (types : Table) (store apart : Contents) : Type 0 where
  pub cells : apart.cells ≡ store.cells
  pub pairs : pairs types apart ≡ pairs types store
