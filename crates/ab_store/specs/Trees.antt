-- What the ids of a store stand for before anything is put in for cells: plain terms whose variables are the numbers
-- of cells, and whose hints are names. A node names earlier nodes only, so the terms are read in the order of the nodes.
use Rattle.std.specs.Prelude.{ℕ, ◌<◌, List, [], ◌∷◌, ◌++◌, map, length, get_or}
use Rattle.ab_term.specs.Logical as plain
use Rattle.ab_term.specs.Terms as tree
use Rattle.ab_term.specs.Terms.{lam, spine, terms_of, no_terms}
pub use Rattle.ab_term.specs.Terms.{Read}
use Rattle.ab_types.specs.Entries.{Table}
use Rattle.ab_types.specs.Ids.{type_of, constant_of}
use Rattle.ab_store.specs.declared.node.TermId.{TermId}
use Rattle.ab_store.specs.declared.node.CellId.{CellId}
use Rattle.ab_store.specs.declared.node.Logical.{Logical}
use Rattle.ab_store.specs.declared.node.Logical.TheVariants.{True, False, And, Or, Arrow, Equal, Forall, Exists, Nabla, Judge, Focus, Star, At, Plus, Hash, Pi, Imply, With}
use Rattle.ab_store.specs.declared.node.Head.{Head}
use Rattle.ab_store.specs.declared.node.Head.TheVariants.{Const, Logic, Nominal, Cell, Index}
use Rattle.ab_store.specs.declared.node.Node.{Node}
use Rattle.ab_store.specs.declared.node.Node.TheVariants.{Lam, Spine}
use Rattle.ab_store.specs.declared.node.CellEntry.{CellEntry}
use Rattle.ab_store.specs.declared.node.Binding.{Binding}

-- what contracts see of a store: its nodes, its cells and its bindings, each in the order of their making, and how
-- many bindings more have a place. What ids stand for doesn't depend on the room.
pub record Contents : Type 0 where
  pub nodes : List Node
  pub cells : List CellEntry
  pub bindings : List Binding
  pub room : ℕ

abbrev pub Holds : Contents → TermId → Type 0
Holds store t = t.0 < length store.nodes

abbrev pub HoldsCell : Contents → CellId → Type 0
HoldsCell store c = c.0 < length store.cells

abbrev pub cell_in : List CellEntry → CellId → CellEntry
cell_in cells c = get_or cells c.0 (record { hint = []; ty = record { 0 = 0 } })

abbrev pub cell_of : Contents → CellId → CellEntry
cell_of store c = cell_in store.cells c

module _ (types : Table) where
  abbrev pub logical_of : Logical → plain.Logical
  logical_of True = plain.truth
  logical_of False = plain.falsity
  logical_of And = plain.conjunction
  logical_of Or = plain.disjunction
  logical_of Arrow = plain.implication
  logical_of (Equal a) = plain.equality (type_of types a)
  logical_of (Forall a) = plain.universal (type_of types a)
  logical_of (Exists a) = plain.existential (type_of types a)
  logical_of (Nabla a) = plain.nabla (type_of types a)
  logical_of Judge = plain.judgement
  logical_of Focus = plain.focused_judgement
  logical_of (Star level) = plain.star level
  logical_of (At level) = plain.at_sign level
  logical_of (Plus level) = plain.plus level
  logical_of (Hash level) = plain.hash level
  logical_of (Pi a) = plain.spec_universal (type_of types a)
  logical_of Imply = plain.spec_implication
  logical_of With = plain.spec_conjunction

  abbrev pub head_in : List CellEntry → Head → tree.Head ℕ
  head_in cells (Const c) = tree.constant (constant_of types c).name
  head_in cells (Logic l) = tree.logical (logical_of l)
  head_in cells (Nominal n a) = tree.nominal (record { number = n; type = type_of types a })
  head_in cells (Cell c) = tree.variable (record { name = c.0; type = type_of types (cell_in cells c).ty })
  head_in cells (Index i) = tree.index i

  -- the term at an id, among the terms of the ids in order
  abbrev pub term_at : List Read → TermId → Read
  term_at terms t = get_or terms t.0 (spine (tree.index 0) no_terms)

  -- the term of a node, given the terms of the ids before it
  abbrev pub term_of_node : List CellEntry → List Read → Node → Read
  term_of_node cells terms (Lam a x t) = lam (type_of types a) x (term_at terms t)
  term_of_node cells terms (Spine h ts) = spine (head_in cells h) (terms_of (map (term_at terms) ts))

  abbrev pub terms_from : List CellEntry → List Read → List Node → List Read
  terms_from cells terms [] = terms
  terms_from cells terms (n ∷ ns) = terms_from cells (terms ++ term_of_node cells terms n ∷ []) ns

  -- the trees of the ids of the store, in order
  abbrev pub trees : Contents → List Read
  trees store = terms_from store.cells [] store.nodes

  -- the tree of an id, over cells
  abbrev pub tree_of : Contents → TermId → Read
  tree_of store t = term_at (trees store) t

  -- the head of a tree
  abbrev pub head_reading : Contents → Head → tree.Head ℕ
  head_reading store h = head_in store.cells h

  -- the tree of a node of the store
  abbrev pub node_tree : Contents → Node → Read
  node_tree store n = term_of_node store.cells (trees store) n
