-- Names that become bound: which names are told from others by what they read as, and what a walk keeps of terms that it
-- has been through.
use Rattle.std.specs.Prelude.{◌≡◌, ℕ, ◌+◌, List, [], ◌∷◌, length, map, Some}
use Rattle.ab_term.specs.Terms as tree
use Rattle.ab_term.specs.Terms.{Variable, Read}
use Rattle.ab_term.specs.Abstraction.{close, close_head}
use Rattle.ab_norm.specs.ab_types.specs.Entries.{Table}
use Rattle.ab_norm.specs.ab_types.specs.Sound.{IsTable}
use Rattle.ab_norm.specs.ab_store.specs.declared.node.TermId.{TermId}
use Rattle.ab_norm.specs.ab_store.specs.declared.node.CellId.{CellId}
use Rattle.ab_norm.specs.ab_store.specs.declared.node.Head.{Head}
use Rattle.ab_norm.specs.ab_store.specs.declared.node.Head.TheVariants.{Cell}
use Rattle.ab_norm.specs.ab_store.specs.Trees.{Contents, Holds, tree_of, head_reading}
use Rattle.ab_norm.specs.ab_store.specs.Reading.{cell_variable}
use Rattle.ab_norm.specs.ab_store.specs.Naming.{HeadIsTyped, IsTypedBy}
use Rattle.ab_norm.specs.declared.memo.Memo.{Memo}
use Rattle.ab_norm.specs.WalkMemory.{answer_of}

-- NO OTHER HEAD OF THE STORE READS AS THIS ONE: it is a cell, or the table is sound and types it and the store
abbrev pub IsToldApart : Table → Contents → Head → Type 0
IsToldApart types store (Cell c) = Unit {0}
IsToldApart types store h = IsTable types × IsTypedBy types store × HeadIsTyped types h

-- a term under a binder more for each of the variables, the first outermost: they are the bound names. The binders are put
-- in behind k others, the innermost first.
abbrev pub under_all : ℕ → List (Variable ℕ) → Read → Read
under_all k [] t = t
under_all k (x ∷ xs) t = close (k + length xs) (tree.variable x) (under_all k xs t)

-- the head, as it is called under so many binders
abbrev pub sunk : ℕ → tree.Head ℕ → tree.Head ℕ
sunk k (tree.index i) = tree.index (i + k)
sunk k h = h

-- the same for each of the names, which are called as outside of the term
abbrev pub close_names : ℕ → List (tree.Head ℕ) → Read → Read
close_names k [] t = t
close_names k (h ∷ hs) t = close (k + length hs) (sunk (k + length hs) h) (close_names k hs t)

-- no other head of the store than the first reads as it. From here on only private contracts speak of it.
abbrev pub AreToldApart : Table → Head → Head → Type 0
AreToldApart types (Cell c) other = Unit {0}
AreToldApart types h other = IsTable types × HeadIsTyped types h × HeadIsTyped types other

-- what is kept are terms of the store
abbrev pub KeepsTerms : Contents → Memo → Type 0
KeepsTerms store memo = (t r : TermId) (depth : ℕ) → answer_of memo t depth ≡ Some r → Holds store t × Holds store r

-- the second term is the first, where a binder is put in for each of the names
abbrev pub IsClosing : Table → Contents → List Head → TermId → ℕ → TermId → Type 0
IsClosing types store names t at r = tree_of types store r ≡ close_names at (map (head_reading types store) names) (tree_of types store t)

-- each answer that is kept is right
abbrev pub Remembers : Table → Contents → List Head → Memo → Type 0
Remembers types store names memo = (t r : TermId) (depth : ℕ) → answer_of memo t depth ≡ Some r → IsClosing types store names t depth r

-- what a head becomes under a binder for each of the names
abbrev pub close_head_names : ℕ → List (tree.Head ℕ) → tree.Head ℕ → tree.Head ℕ
close_head_names k [] g = g
close_head_names k (h ∷ hs) g = close_head (k + length hs) (sunk (k + length hs) h) (close_head_names k hs g)

-- what a head becomes under a binder for each of the variables
abbrev pub head_under_all : ℕ → List (Variable ℕ) → tree.Head ℕ → tree.Head ℕ
head_under_all k [] h = h
head_under_all k (x ∷ xs) h = close_head (k + length xs) (tree.variable x) (head_under_all k xs h)

-- each answer that is kept is its term under a binder for each of the cells
abbrev pub KeepsUnderAll : Contents → List CellId → Memo → Type 0
KeepsUnderAll store cells memo = (t r : TermId) (depth : ℕ) → answer_of memo t depth ≡ Some r → Holds store t × Holds store r
    × ((types : Table) → tree_of types store r ≡ under_all depth (map (cell_variable types store) cells) (tree_of types store t))
