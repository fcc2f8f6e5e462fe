-- What the ids of a store stand for: their trees, with the bindings put in, one after another, in the order in which
-- they were made. Where no cell is bound that is the tree itself.
use Rattle.std.specs.Prelude.{ℕ, List, [], ◌∷◌, map, ◌==◌, Option, Some, None, option_map, if◌then◌else◌}
use Rattle.ab_term.specs.Terms.{Variable, lam, terms_of}
use Rattle.ab_term.specs.Variables.{Substitution, one_by_one, put_at}
use Rattle.ab_types.specs.Entries.{Table}
use Rattle.ab_types.specs.Ids.{type_of}
use Rattle.ab_store.specs.declared.node.TermId.{TermId}
use Rattle.ab_store.specs.declared.node.CellId.{CellId}
use Rattle.ab_store.specs.declared.node.Head.{Head}
use Rattle.ab_store.specs.declared.node.Node.{Node}
use Rattle.ab_store.specs.declared.node.Node.TheVariants.{Lam, Spine}
use Rattle.ab_store.specs.declared.node.Binding.{Binding}
pub use Rattle.ab_term.specs.Sameness.{same_number}
pub use Rattle.ab_term.specs.Terms.{Read}
pub use Rattle.ab_store.specs.Trees.{Contents, Holds, HoldsCell, cell_in, cell_of, logical_of, head_in, head_reading, tree_of}

-- the term that the first binding of a cell gives it
abbrev pub bound_in : List Binding → CellId → Option TermId
bound_in [] c = None
bound_in (b ∷ bs) c = if b.cell.0 == c.0 then Some b.term else bound_in bs c

-- THE BINDING of a cell: the term that it is bound to, `None` while it is unbound
abbrev pub binding_of : Contents → CellId → Option TermId
binding_of store c = bound_in store.bindings c

module _ (types : Table) (store : Contents) where
  -- the variable that a cell is in a tree
  abbrev pub cell_variable : CellId → Variable ℕ
  cell_variable c = record { name = c.0; type = type_of types (cell_of store c).ty }

  -- the bindings, in order, each as a pair of a variable and a tree. No bound cell stands in a term when it is bound to,
  -- so its tree is what it reads as then.
  abbrev pub pairs : Substitution ℕ (List ℕ)
  pairs = map (λ b. (cell_variable b.cell, tree_of types store b.term)) store.bindings

  -- THE READING of an id
  abbrev pub reading : TermId → Read
  reading t = one_by_one same_number pairs (tree_of types store t)

  -- what a variable stands for, where its cell is bound
  abbrev pub value_of : Variable ℕ → Option Read
  value_of x = option_map reading (binding_of store (record { 0 = x.name }))

  -- THE HEAD GIVEN THESE ARGUMENTS. A bound cell gives way to what its term reads as, which takes the arguments
  -- at once; any other head stays.
  abbrev pub given : Head → List TermId → Read
  given h ts = put_at value_of (head_reading types store h) (terms_of (map reading ts))

  -- the reading of a node of the store
  abbrev pub node_reading : Node → Read
  node_reading (Lam a x t) = lam (type_of types a) x (reading t)
  node_reading (Spine h ts) = given h ts
