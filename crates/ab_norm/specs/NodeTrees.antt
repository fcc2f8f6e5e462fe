-- What a tree of the program stands for, as a plain term, and what stands in it.
use Rattle.std.specs.Prelude.{List, ◌∷◌, All}
use Rattle.std.specs.List.{flat_map}
use Rattle.ab_term.specs.Terms.{lam, spine, terms_of}
use Rattle.ab_store.specs.ab_types.specs.Entries.{Table}
use Rattle.ab_store.specs.ab_types.specs.declared.ids.TypeId.{TypeId}
use Rattle.ab_store.specs.ab_types.specs.Ids.{HoldsType, type_of}
use Rattle.ab_store.specs.declared.node.Head.{Head}
use Rattle.ab_store.specs.Reading.{Read, Contents, head_reading}
use Rattle.ab_store.specs.Naming.{HoldsHead, HeadIsTyped}
use Rattle.ab_norm.specs.Items.{list_of}
use Rattle.ab_norm.specs.declared.tree.Tree.{Tree, fold-Tree}
use Rattle.ab_norm.specs.declared.tree.Tree.TheOpen.{Tree-F}

module _ (types : Table) (store : Contents) where
  abbrev pub tree_step : Tree-F Read → Read
  tree_step (Tree-F.Lam a x t) = lam (type_of types a) x (t.value)
  tree_step (Tree-F.Spine h ts) = spine (head_reading types store h) (terms_of (list_of ts))

  -- the term that the tree stands for, over the cells of the store
  abbrev pub tree_reading : Tree → Read
  tree_reading = fold-Tree Read tree_step

-- the types at the binders of a tree
abbrev pub types_step : Tree-F (List TypeId) → List TypeId
types_step (Tree-F.Lam a x t) = a ∷ t.value
types_step (Tree-F.Spine h ts) = flat_map (λ l. l) (list_of ts)

abbrev pub binder_types : Tree → List TypeId
binder_types = fold-Tree (List TypeId) types_step

-- the heads of a tree
abbrev pub heads_step : Tree-F (List Head) → List Head
heads_step (Tree-F.Lam a x t) = t.value
heads_step (Tree-F.Spine h ts) = h ∷ flat_map (λ l. l) (list_of ts)

abbrev pub heads : Tree → List Head
heads = fold-Tree (List Head) heads_step

-- what stands in the tree is there: types and constants in the table, cells in the store
pub record HoldsTree (types : Table) (store : Contents) (tree : Tree) : Type 0 where
  pub binders : All (HoldsType types) (binder_types tree)
  pub constants : All (HeadIsTyped types) (heads tree)
  pub cells : All (HoldsHead store) (heads tree)
