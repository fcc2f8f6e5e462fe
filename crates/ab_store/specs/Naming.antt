-- What the nodes of a store name: earlier nodes, cells, and types and constants of a table.
use Rattle.std.specs.Prelude.{ℕ, ◌<◌, List, [], length, get_or}
use Rattle.std.specs.List.{All}
use Rattle.ab_term.specs.Types.{Ty}
use Rattle.ab_term.specs.Typing.{HasType}
use Rattle.ab_types.specs.Entries.{Table, signature}
use Rattle.ab_types.specs.Ids.{HoldsType, HoldsConstant, type_of}
use Rattle.ab_store.specs.declared.node.TermId.{TermId}
use Rattle.ab_store.specs.declared.node.Logical.{Logical}
use Rattle.ab_store.specs.declared.node.Logical.TheVariants.{Equal, Forall, Exists, Nabla, Pi}
use Rattle.ab_store.specs.declared.node.Head.{Head}
use Rattle.ab_store.specs.declared.node.Head.TheVariants.{Const, Logic, Nominal, Cell}
use Rattle.ab_store.specs.declared.node.Node.{Node}
use Rattle.ab_store.specs.declared.node.Node.TheVariants.{Lam, Spine}
use Rattle.ab_store.specs.declared.node.Binding.{Binding}
use Rattle.ab_store.specs.Trees.{Contents, Holds, HoldsCell, cell_of, tree_of}

-- a cell that the head is, if it is one, is among the first `cells`
abbrev pub HeadNames : ℕ → Head → Type 0
HeadNames cells (Cell c) = c.0 < cells
HeadNames cells _ = Unit {0}

-- the node names only the first `nodes` ids and the first `cells` cells
abbrev pub NodeNames : ℕ → ℕ → Node → Type 0
NodeNames nodes cells (Lam a x t) = t.0 < nodes
NodeNames nodes cells (Spine h ts) = HeadNames cells h × All (λ t. t.0 < nodes) ts

-- the type that the constant is at, if it is at one, is a type of the table
abbrev pub LogicalIsTyped : Table → Logical → Type 0
LogicalIsTyped types (Equal a) = HoldsType types a
LogicalIsTyped types (Forall a) = HoldsType types a
LogicalIsTyped types (Exists a) = HoldsType types a
LogicalIsTyped types (Nabla a) = HoldsType types a
LogicalIsTyped types (Pi a) = HoldsType types a
LogicalIsTyped types _ = Unit {0}

abbrev pub HeadIsTyped : Table → Head → Type 0
HeadIsTyped types (Const c) = HoldsConstant types c
HeadIsTyped types (Logic l) = LogicalIsTyped types l
HeadIsTyped types (Nominal n a) = HoldsType types a
HeadIsTyped types _ = Unit {0}

abbrev pub NodeIsTyped : Table → Node → Type 0
NodeIsTyped types (Lam a x t) = HoldsType types a
NodeIsTyped types (Spine h ts) = HeadIsTyped types h

-- each node names earlier nodes, and cells that there are
abbrev pub NodesNameEarlier : ℕ → List Node → Type 0
NodesNameEarlier cells ns = (j : ℕ) (d : Node) → j < length ns → NodeNames j cells (get_or ns j d)

-- a cell that the head is, if it is one, is one of the store's
abbrev pub HoldsHead : Contents → Head → Type 0
HoldsHead store h = HeadNames (length store.cells) h

-- THE ID IS A TERM of the type, over bound names of the listed types: the store holds it, and its tree is canonical and
-- well-typed. A tree has cells for variables, each with its own type; so an id is a term whatever cells are bound, and
-- in a store that is typed by the table its reading is canonical and of the type too.
abbrev pub IsTerm : Table → Contents → List Ty → TermId → Ty → Type 0
IsTerm types store G t A = Holds store t × HasType (signature types) G (tree_of types store t) A

-- the cell is there, and is bound to a term of its type without free names
abbrev pub BindingIsTyped : Table → Contents → Binding → Type 0
BindingIsTyped types store b = HoldsCell store b.cell × IsTerm types store [] b.term (type_of types (cell_of store b.cell).ty)

-- THE STORE IS TYPED BY THE TABLE: what its nodes name is there, earlier in the store or in the table, and so are
-- the types of its cells, and each cell is bound to a term of its type. Whether another id is a term is a fact of its
-- tree.
pub record IsTypedBy (types : Table) (store : Contents) : Type 0 where
  pub earlier : NodesNameEarlier (length store.cells) store.nodes
  pub nodes : All (NodeIsTyped types) store.nodes
  pub cells : All (λ c. HoldsType types c.ty) store.cells
  pub bindings : All (BindingIsTyped types store) store.bindings
