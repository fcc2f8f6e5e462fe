-- Marks: how many bindings, nodes and cells a store had. What a mark counts is the store as it was when it was made,
-- and growth, bindings and what is taken back down to that mark leave it so.
use Rattle.std.specs.Prelude.{◌≡◌, ℕ, suc, ◌<◌, ◌≤◌, [], max, length, take, All, Option, Some, None, option_map, unwrap_or}
use Rattle.ab_store.specs.declared.node.TermId.{TermId}
use Rattle.ab_store.specs.declared.node.CellId.{CellId}
use Rattle.ab_store.specs.declared.node.Head.{Head}
use Rattle.ab_store.specs.declared.node.Head.TheVariants.{Cell, Index}
use Rattle.ab_store.specs.declared.node.Node.{Node}
use Rattle.ab_store.specs.declared.node.Node.TheVariants.{Lam, Spine}
use Rattle.ab_store.specs.declared.mark.Mark.{Mark}
use Rattle.ab_store.specs.Trees.{Contents}
use Rattle.ab_store.specs.Naming.{NodesNameEarlier}

-- THE STORE STILL HAS THE MARK: none of its counts is above the store's, and the nodes and bindings that it counts name
-- only nodes and cells that it counts
pub record HasMark (store : Contents) (m : Mark) : Type 0 where
  pub bindings : m.bindings ≤ length store.bindings
  pub nodes : m.nodes ≤ length store.nodes
  pub cells : m.cells ≤ length store.cells
  pub nodes_name : NodesNameEarlier m.cells (take m.nodes store.nodes)
  pub bindings_name : All (λ b. (b.cell.0 < m.cells) × (b.term.0 < m.nodes)) (take m.bindings store.bindings)

-- what the mark counts, as a store; without room, since a mark says nothing of it
abbrev pub at_mark : Contents → Mark → Contents
at_mark store m = record {
  nodes = take m.nodes store.nodes;
  cells = take m.cells store.cells;
  bindings = take m.bindings store.bindings;
  room = 0;
}

-- the first mark counts no more than the second
abbrev pub IsNoLater : Mark → Mark → Type 0
IsNoLater k m = (k.bindings ≤ m.bindings) × (k.nodes ≤ m.nodes) × (k.cells ≤ m.cells)

-- the second store has the mark too, and it counts the same there
pub record KeepsMark (old new : Contents) (m : Mark) : Type 0 where
  pub has : HasMark new m
  pub same : at_mark new m ≡ at_mark old m

-- the mark, or else the first behind it that counts the term
abbrev pub to_term : Mark → TermId → Mark
to_term m t = record { bindings = m.bindings; nodes = max m.nodes (suc t.0); cells = m.cells }

-- the same for a cell
abbrev pub to_cell : Mark → CellId → Mark
to_cell m c = record { bindings = m.bindings; nodes = m.nodes; cells = max m.cells (suc c.0) }

-- the cell that a node's head is, if it is one
abbrev pub cell_as_head : Head → Option CellId
cell_as_head (Cell c) = Some c
cell_as_head _ = None

abbrev pub cell_in_node : Node → Option CellId
cell_in_node (Lam a x t) = None
cell_in_node (Spine h ts) = cell_as_head h

-- how many cells a mark has to count so that it counts that one
abbrev pub cells_in_node : Node → ℕ
cells_in_node n = unwrap_or (option_map (λ (c : CellId). suc c.0) (cell_in_node n)) 0

abbrev pub no_node : Node
no_node = Spine (Index 0) []
