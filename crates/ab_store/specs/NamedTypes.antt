-- The types that the nodes and cells of a store name.
use Rattle.std.specs.Prelude.{◌≡◌, ◌⊎◌, ℕ, ◌<◌, ◌≤◌, List, length, get_or, Option, Some, None}
use Rattle.std.specs.List.{AllWithin}
use Rattle.ab_types.specs.Entries.{Table}
use Rattle.ab_types.specs.Ids.{HoldsType}
use Rattle.ab_types.specs.LastTypes.{types_up_to}
use Rattle.ab_types.specs.declared.ids.TypeId.{TypeId}
use Rattle.ab_store.specs.declared.node.Logical.{Logical}
use Rattle.ab_store.specs.declared.node.Logical.TheVariants.{Equal, Forall, Exists, Nabla, Pi}
use Rattle.ab_store.specs.declared.node.Head.{Head}
use Rattle.ab_store.specs.declared.node.Head.TheVariants.{Logic, Nominal}
use Rattle.ab_store.specs.declared.node.Node.{Node}
use Rattle.ab_store.specs.declared.node.Node.TheVariants.{Lam, Spine}
use Rattle.ab_store.specs.declared.node.CellEntry.{CellEntry}
use Rattle.ab_store.specs.declared.mark.Mark.{Mark}
use Rattle.ab_store.specs.Trees.{Contents}
use Rattle.ab_store.specs.Naming.{NodeIsTyped}

-- THE TABLE TYPES WHAT THE MARK DOESN'T COUNT: what nodes and cells behind it name is in the table
pub record TypesBehind (types : Table) (m : Mark) (store : Contents) : Type 0 where
  pub nodes : AllWithin (NodeIsTyped types) store.nodes m.nodes (length store.nodes)
  pub cells : AllWithin (λ c. HoldsType types c.ty) store.cells m.cells (length store.cells)

-- the type that the constant is at, if it is at one
abbrev pub type_in_logical : Logical → Option TypeId
type_in_logical (Equal a) = Some a
type_in_logical (Forall a) = Some a
type_in_logical (Exists a) = Some a
type_in_logical (Nabla a) = Some a
type_in_logical (Pi a) = Some a
type_in_logical _ = None

abbrev pub type_in_head : Head → Option TypeId
type_in_head (Logic l) = type_in_logical l
type_in_head (Nominal n a) = Some a
type_in_head _ = None

-- the type that the node names, if it names one
abbrev pub type_in_node : Node → Option TypeId
type_in_node (Lam a x t) = Some a
type_in_node (Spine h ts) = type_in_head h

abbrev pub type_in_cell : CellEntry → Option TypeId
type_in_cell c = Some c.ty

-- the last of the types that are told behind the first so many, if one is told there
pub record IsLastTold (told : List (Option TypeId)) (first : ℕ) (last : Option TypeId) : Type 0 where
  pub each : (n : ℕ) → first ≤ n → n < length told → types_up_to (get_or told n None) ≤ types_up_to last
  pub one : (types_up_to last ≡ 0) ⊎ (n : ℕ) × (first ≤ n) × (n < length told) × (types_up_to (get_or told n None) ≡ types_up_to last)
