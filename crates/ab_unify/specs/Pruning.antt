-- What a walk that prunes keeps of terms that it has been through, and what it asks of heads. Only private contracts speak
-- of this.
use Rattle.std.specs.Prelude.{◌≡◌, ℕ, ◌+◌, List, map, length, true, codes}
use Rattle.ab_term.specs.Terms as tree
use Rattle.ab_norm.specs.ab_types.specs.Entries.{Table}
use Rattle.ab_norm.specs.ab_store.specs.declared.node.TermId.{TermId}
use Rattle.ab_norm.specs.ab_store.specs.declared.node.CellId.{CellId}
use Rattle.ab_norm.specs.ab_store.specs.declared.node.Head.{Head}
use Rattle.ab_norm.specs.ab_store.specs.declared.node.Head.TheVariants.{Cell}
use Rattle.ab_norm.specs.ab_store.specs.Trees.{Contents, tree_of}
use Rattle.ab_norm.specs.ab_store.specs.Reading.{cell_variable}
use Rattle.ab_patterns.specs.declared.visited_nodes.Seen.{Seen}
use Rattle.ab_patterns.specs.ReadingWalks.{has_been, deep}
use Rattle.ab_patterns.specs.ab_unifiers.specs.Replacements.{Change, pruned}
use Rattle.ab_unify.specs.StoreChanges.{IsFree}

-- a cell that the head is, if it is one, may be bound
abbrev pub HeadIsFree : Contents → Head → Type 0
HeadIsFree store (Cell c) = IsFree store c
HeadIsFree store _ = Unit {0}

-- pruning a term that was seen under so many names changes nothing any more; the names are `outer`, under binders
abbrev pub AllPruned : Table → Contents → List CellId → List (tree.Head ℕ) → Change (List ℕ) → Seen → Type 0
AllPruned types store cells outer c seen =
    (t : TermId) (k : ℕ) → has_been seen t (k + length outer) ≡ true
    → pruned (codes "x") (map (cell_variable types store) cells) (deep k outer) (tree_of types store t) c ≡ c
