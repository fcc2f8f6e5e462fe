-- What walks that only read find out of a term, and what they keep of terms that they have been through. Only private
-- contracts speak of this.
use Rattle.std.specs.Prelude.{◌≡◌, ℕ, zero, suc, List, map, Bool, true, false, ◌==◌, ◌&&◌, is_some}
use Rattle.std.specs.HashSet as bag
use Rattle.ab_term.specs.Terms as tree
use Rattle.ab_term.specs.Abstraction.{under}
use Rattle.ab_norm.specs.ab_types.specs.Entries.{Table}
use Rattle.ab_norm.specs.ab_store.specs.declared.node.TermId.{TermId}
use Rattle.ab_norm.specs.ab_store.specs.declared.node.CellId.{CellId}
use Rattle.ab_norm.specs.ab_store.specs.declared.node.Head.{Head}
use Rattle.ab_norm.specs.ab_store.specs.Trees.{Contents, Holds, tree_of, head_reading}
use Rattle.ab_norm.specs.ab_store.specs.Reading.{cell_variable}
use Rattle.ab_unifiers.specs.Patterns.{pattern}
use Rattle.ab_unifiers.specs.Replacements.{no_foreign, has_patterns, occurs}
use Rattle.ab_patterns.specs.declared.visited_nodes.Seen.{Seen}

abbrev pub same_place : TermId × ℕ → TermId × ℕ → Bool
same_place p q = (p.0.0 == q.0.0) && (p.1 == q.1)

-- whether the term is kept
abbrev pub has_been : Seen → TermId → ℕ → Bool
has_been seen t depth = bag.contains same_place seen.terms (t, depth)

-- the names, as they are called under so many binders, and the binders' names before them
abbrev pub deep : ℕ → List (tree.Head ℕ) → List (tree.Head ℕ)
deep zero hs = hs
deep (suc k) hs = under (deep k hs)

-- the head is a variable, and the arguments are different names
abbrev pub given_names : {Hint : Type 0} → tree.Head ℕ → tree.Terms ℕ Hint → Bool
given_names (tree.variable y) ts = is_some (pattern y.type ts)
given_names _ ts = false

module _ (types : Table) (store : Contents) where
  -- the cell doesn't stand in the term
  abbrev pub IsAbsent : CellId → TermId → Type 0
  IsAbsent c t = occurs (cell_variable types store c) (tree_of types store t) ≡ false

  -- under so many binders no name stands in the term that is foreign to those listed, but for arguments of these cells
  abbrev pub IsOwn : List CellId → List Head → ℕ → TermId → Type 0
  IsOwn cells names depth t = no_foreign (map (cell_variable types store) cells) (deep depth (map (head_reading types store) names)) (tree_of types store t) ≡ true

  -- each of these cells that stands in the term is given different names
  abbrev pub IsPatterned : List CellId → TermId → Type 0
  IsPatterned cells t = has_patterns (map (cell_variable types store) cells) (tree_of types store t) ≡ true

  abbrev pub AllAbsent : CellId → Seen → Type 0
  AllAbsent c seen = (t : TermId) (k : ℕ) → has_been seen t k ≡ true → IsAbsent c t

  abbrev pub AllOwn : List CellId → List Head → Seen → Type 0
  AllOwn cells names seen = (t : TermId) (k : ℕ) → has_been seen t k ≡ true → IsOwn cells names k t

  abbrev pub AllPatterned : List CellId → Seen → Type 0
  AllPatterned cells seen = (t : TermId) (k : ℕ) → has_been seen t k ≡ true → Holds store t × IsPatterned cells t
