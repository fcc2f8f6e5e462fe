-- TYPES IN PREFIX ORDER: a type as the list of its nodes, each before the types that it is made of.
use Rattle.std.specs.Prelude.{ℕ, List, [], ◌∷◌, ◌++◌, drop, codes}
use Rattle.ab_cert.specs.declared.type_tree.TypeNode.{TypeNode}
use Rattle.ab_cert.specs.Plain.{Ty, base, arrow}

-- THE NODES OF A TYPE
abbrev pub type_nodes : Ty → List TypeNode
type_nodes (base k) = TypeNode.Base k ∷ []
type_nodes (arrow a b) = TypeNode.Arrow ∷ (type_nodes a ++ type_nodes b)

-- the first of some types
abbrev pub first_type : List Ty → Ty
first_type [] = base []
first_type (a ∷ more) = a

-- the types that stand one behind another
abbrev pub types_in : List TypeNode → List Ty
types_in [] = []
types_in (TypeNode.Base k ∷ ns) = base k ∷ types_in ns
types_in (TypeNode.Arrow ∷ ns) = arrow (first_type (types_in ns)) (first_type (drop 1 (types_in ns))) ∷ drop 2 (types_in ns)

-- THE TYPE OF SOME NODES
abbrev pub type_in : List TypeNode → Ty
type_in ns = first_type (types_in ns)

-- THE PIECE OF A NODE
abbrev pub type_node_piece : TypeNode → List ℕ
type_node_piece (TypeNode.Base k) = k
type_node_piece TypeNode.Arrow = codes ">"
