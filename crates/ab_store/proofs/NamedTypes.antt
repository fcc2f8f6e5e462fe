-- The last type that nodes and cells name, and tables that hold it.
use Rattle.std.proofs.Common.{◌≡◌, ◌⊎◌, inl, inr, ℕ, ◌+◌, ◌<◌, ◌≤◌, max, map, List, [], length, get_or, Option, Some, None, refl, sym, ◌∙◌, ap, subst, arith}
use Rattle.std.proofs.lemmas.List.{get_or-map, length-map}
use Rattle.ab_types.specs.Entries.{Table, types, constants}
use Rattle.ab_types.specs.LastTypes.{types_up_to}
use Rattle.ab_types.specs.declared.ids.TypeId.{TypeId}
use Rattle.ab_store.specs.declared.node.Logical.{Logical}
use Rattle.ab_store.specs.declared.node.Logical.TheVariants.{True, False, And, Or, Arrow, Equal, Forall, Exists, Nabla, Judge, Focus, Star, At, Plus, Hash, Pi, Imply, With}
use Rattle.ab_store.specs.declared.node.Head.{Head}
use Rattle.ab_store.specs.declared.node.Head.TheVariants.{Const, Logic, Nominal, Cell, Index}
use Rattle.ab_store.specs.declared.node.Node.{Node}
use Rattle.ab_store.specs.declared.node.Node.TheVariants.{Lam, Spine}
use Rattle.ab_store.specs.declared.node.CellEntry.{CellEntry}
use Rattle.ab_store.specs.declared.mark.Mark.{Mark}
use Rattle.ab_store.specs.declared.store.NodeEntry.{NodeEntry}
use Rattle.ab_store.specs.declared.store.Slot.{Slot}
use Rattle.ab_store.specs.Trees.{Contents}
use Rattle.ab_store.specs.Naming.{LogicalIsTyped, HeadIsTyped, NodeIsTyped, IsTypedBy}
use Rattle.ab_store.specs.Marks.{no_node}
use Rattle.ab_store.specs.NamedTypes.{TypesBehind, type_in_logical, type_in_head, type_in_node, type_in_cell, IsLastTold}
use Rattle.ab_store.proofs.Wholes.{node_there}

-- what holds while the last type is looked for, one place after another
pub record IsLastSoFar (told : List (Option TypeId)) (first place : ℕ) (last : Option TypeId) : Type 0 where
  pub above : first ≤ place
  pub each : (n : ℕ) → first ≤ n → n < place → types_up_to (get_or told n None) ≤ types_up_to last
  pub one : (types_up_to last ≡ 0) ⊎ (n : ℕ) × (first ≤ n) × (n < length told) × (types_up_to (get_or told n None) ≡ types_up_to last)

pub none_so_far : (told : List (Option TypeId)) (first : ℕ) → IsLastSoFar told first first None
none_so_far told first = record {
  above = omega arith;
  each = λ n low high. absurd (omega (arith, low, high));
  one = inl refl;
}

module _ (told : List (Option TypeId)) (first place : ℕ) (last : Option TypeId) (so_far : IsLastSoFar told first place last) where
  pub one_further : (o new : Option TypeId) → place < length told → get_or told place None ≡ o → types_up_to new ≡ max (types_up_to last) (types_up_to o) → IsLastSoFar told first (place + 1) new
  one_further o new there is latest = record {
    above = omega (arith, so_far.above);
    each = λ n low high. elim (below_or_at n place high) [
      | inl l ↦ omega (arith, so_far.each n low l, latest)
      | inr e ↦ subst (λ i. types_up_to (get_or told i None) ≤ types_up_to new) (sym e) (omega (arith, ap types_up_to is, latest))
    ];
    one = higher (either (types_up_to last) (types_up_to o));
  }
    where
      below_or_at : (i n : ℕ) → i < n + 1 → (i < n) ⊎ (i ≡ n)
      below_or_at i n h = search arith

      either : (a b : ℕ) → (b ≤ a) ⊎ (a ≤ b)
      either a b = search arith

      higher : (types_up_to o ≤ types_up_to last) ⊎ (types_up_to last ≤ types_up_to o)
          → (types_up_to new ≡ 0) ⊎ (n : ℕ) × (first ≤ n) × (n < length told) × (types_up_to (get_or told n None) ≡ types_up_to new)
      higher (inl l) =
          let same : types_up_to last ≡ types_up_to new = omega (arith, l, latest) in
          elim so_far.one [ inl e ↦ inl (sym same ∙ e) | inr p ↦ inr (p.0, p.1, p.2, p.3 ∙ same) ]
      higher (inr l) = inr (place, so_far.above, there, omega (arith, ap types_up_to is, l, latest))

  pub all_so_far : length told ≤ place → IsLastTold told first last
  all_so_far long = record {
    each = λ n low high. so_far.each n low (omega (arith, high, long));
    one = so_far.one;
  }

-- what is told at a place of a store as it is kept

pub told_by_entry : (es : List NodeEntry) (i : ℕ) (e : NodeEntry) → i < length es → e ≡ get_or es i e → get_or (map type_in_node (map (λ (x : NodeEntry). x.node) es)) i None ≡ type_in_node e.node
told_by_entry es i e l same =
    get_or-map type_in_node (map (λ (x : NodeEntry). x.node) es) i no_node None (omega (arith, l, length-map es (λ (x : NodeEntry). x.node)))
    ∙ ap type_in_node (node_there es i e l same)

pub told_by_slot : (ss : List Slot) (i : ℕ) (s : Slot) → i < length ss → s ≡ get_or ss i s → get_or (map type_in_cell (map (λ (x : Slot). x.cell) ss)) i None ≡ Some s.cell.ty
told_by_slot ss i s l same =
    get_or-map type_in_cell (map (λ (x : Slot). x.cell) ss) i s.cell None (omega (arith, l, length-map ss (λ (x : Slot). x.cell)))
    ∙ ap type_in_cell (get_or-map (λ (x : Slot). x.cell) ss i s s.cell l ∙ sym (ap (λ (x : Slot). x.cell) same))

-- a table that has the type and the constants types what is named

module _ (s t : Table) (same : constants t ≡ constants s) where
  logical_within : (l : Logical) → types_up_to (type_in_logical l) ≤ length (types t) → LogicalIsTyped t l
  logical_within True h = tt
  logical_within False h = tt
  logical_within And h = tt
  logical_within Or h = tt
  logical_within Arrow h = tt
  logical_within (Equal a) h = h
  logical_within (Forall a) h = h
  logical_within (Exists a) h = h
  logical_within (Nabla a) h = h
  logical_within Judge h = tt
  logical_within Focus h = tt
  logical_within (Star i) h = tt
  logical_within (At i) h = tt
  logical_within (Plus i) h = tt
  logical_within (Hash i) h = tt
  logical_within (Pi a) h = h
  logical_within Imply h = tt
  logical_within With h = tt

  head_within : (h : Head) → HeadIsTyped s h → types_up_to (type_in_head h) ≤ length (types t) → HeadIsTyped t h
  head_within (Const c) typed h = omega (arith, typed, ap length same)
  head_within (Logic l) typed h = logical_within l h
  head_within (Nominal n a) typed h = h
  head_within (Cell c) typed h = tt
  head_within (Index i) typed h = tt

  node_within : (n : Node) → NodeIsTyped s n → types_up_to (type_in_node n) ≤ length (types t) → NodeIsTyped t n
  node_within (Lam a x b) typed h = h
  node_within (Spine g ts) typed h = head_within g typed h

-- and one that types it has the type

module _ (t : Table) where
  logical_has : (l : Logical) → LogicalIsTyped t l → types_up_to (type_in_logical l) ≤ length (types t)
  logical_has True h = omega arith
  logical_has False h = omega arith
  logical_has And h = omega arith
  logical_has Or h = omega arith
  logical_has Arrow h = omega arith
  logical_has (Equal a) h = h
  logical_has (Forall a) h = h
  logical_has (Exists a) h = h
  logical_has (Nabla a) h = h
  logical_has Judge h = omega arith
  logical_has Focus h = omega arith
  logical_has (Star i) h = omega arith
  logical_has (At i) h = omega arith
  logical_has (Plus i) h = omega arith
  logical_has (Hash i) h = omega arith
  logical_has (Pi a) h = h
  logical_has Imply h = omega arith
  logical_has With h = omega arith

  head_has : (h : Head) → HeadIsTyped t h → types_up_to (type_in_head h) ≤ length (types t)
  head_has (Const c) h = omega arith
  head_has (Logic l) h = logical_has l h
  head_has (Nominal n a) h = h
  head_has (Cell c) h = omega arith
  head_has (Index i) h = omega arith

  node_has : (n : Node) → NodeIsTyped t n → types_up_to (type_in_node n) ≤ length (types t)
  node_has (Lam a x b) h = h
  node_has (Spine g ts) h = head_has g h

-- the last of a store's nodes and cells
module _ (store : Contents) (m : Mark) (in_nodes in_cells last : Option TypeId)
    (by_nodes : IsLastTold (map type_in_node store.nodes) m.nodes in_nodes) (by_cells : IsLastTold (map type_in_cell store.cells) m.cells in_cells)
    (is : types_up_to last ≡ max (types_up_to in_nodes) (types_up_to in_cells)) where
  node_told : (n : ℕ) (d : Node) → n < length store.nodes → get_or (map type_in_node store.nodes) n None ≡ type_in_node (get_or store.nodes n d)
  node_told n d l = get_or-map type_in_node store.nodes n d None l

  cell_told : (n : ℕ) (d : CellEntry) → n < length store.cells → get_or (map type_in_cell store.cells) n None ≡ Some (get_or store.cells n d).ty
  cell_told n d l = get_or-map type_in_cell store.cells n d None l

  pub typed_by_enough : (old new : Table) → IsTypedBy old store → constants new ≡ constants old → types_up_to last ≤ length (types new) → TypesBehind new m store
  typed_by_enough old new typed same enough = record {
    nodes = λ n d low high.
        node_within old new same (get_or store.nodes n d) (typed.nodes n d high)
        (omega (arith, ap types_up_to (node_told n d high), by_nodes.each n low (omega (arith, high, length-map store.nodes type_in_node)), is, enough));
    cells = λ n d low high. omega (arith, ap types_up_to (cell_told n d high), by_cells.each n low (omega (arith, high, length-map store.cells type_in_cell)), is, enough);
  }

  pub no_fewer : (t : Table) → TypesBehind t m store → types_up_to last ≤ length (types t)
  no_fewer t typed = elim (either (types_up_to in_nodes) (types_up_to in_cells)) [
    | inl l ↦ elim by_nodes.one [
      | inl e ↦ omega (arith, is, l, e)
      | inr p ↦
          let high : p.0 < length store.nodes = omega (arith, p.2, length-map store.nodes type_in_node) in
          omega (arith, is, l, p.3, ap types_up_to (node_told p.0 no_node high), node_has t (get_or store.nodes p.0 no_node) (typed.nodes p.0 no_node p.1 high))
    ]
    | inr l ↦ elim by_cells.one [
      | inl e ↦ omega (arith, is, l, e)
      | inr p ↦
          let high : p.0 < length store.cells = omega (arith, p.2, length-map store.cells type_in_cell) in
          let none : CellEntry = record { hint = []; ty = record { 0 = 0 } } in
          omega (arith, is, l, p.3, ap types_up_to (cell_told p.0 none high), typed.cells p.0 none p.1 high)
    ]
  ]
    where
      either : (a b : ℕ) → (b ≤ a) ⊎ (a ≤ b)
      either a b = search arith
