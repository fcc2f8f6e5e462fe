-- Marks that are raised until they count the cells that their nodes name.
use Rattle.std.proofs.Common.{◌≡◌, ◌⊎◌, inl, inr, ℕ, zero, suc, ◌+◌, ◌<◌, ◌≤◌, List, [], ◌∷◌, max, map, length, take, get_or, Option, Some, None, unwrap_or, option_map, refl, sym, ◌∙◌, ap, subst, arith, length-take-le}
use Rattle.std.specs.Prelude.{All}
use Rattle.std.proofs.lemmas.List.{get_or-take, get_or-map}
use Rattle.std.proofs.lemmas.List.Elements.{All-weaker}
use Rattle.ab_store.specs.declared.node.TermId.{TermId}
use Rattle.ab_store.specs.declared.node.CellId.{CellId}
use Rattle.ab_store.specs.declared.node.Head.{Head}
use Rattle.ab_store.specs.declared.node.Head.TheVariants.{Const, Logic, Nominal, Cell, Index}
use Rattle.ab_store.specs.declared.node.Node.{Node}
use Rattle.ab_store.specs.declared.node.Node.TheVariants.{Lam, Spine}
use Rattle.ab_store.specs.declared.node.Binding.{Binding}
use Rattle.ab_store.specs.declared.mark.Mark.{Mark}
use Rattle.ab_store.specs.declared.store.NodeEntry.{NodeEntry}
use Rattle.ab_store.specs.Trees.{Contents, HoldsCell}
use Rattle.ab_store.specs.Naming.{HeadNames, NodeNames, NodesNameEarlier}
use Rattle.ab_store.specs.Marks.{HasMark, IsNoLater, to_cell, cell_as_head, cell_in_node, cells_in_node, no_node}

any_default : {X : Type 0} (xs : List X) (i : ℕ) (d e : X) → i < length xs → get_or xs i d ≡ get_or xs i e
any_default [] i d e l = absurd (omega (arith, l))
any_default (x ∷ xs) zero d e l = refl
any_default (x ∷ xs) (suc i) d e l = any_default xs i d e (omega (arith, l))

-- the node of an entry
pub node_there : (es : List NodeEntry) (i : ℕ) (e : NodeEntry) → i < length es → e ≡ get_or es i e → get_or (map (λ (x : NodeEntry). x.node) es) i no_node ≡ e.node
node_there es i e l same =
    get_or-map (λ (x : NodeEntry). x.node) es i e no_node l
    ∙ sym (ap (λ (x : NodeEntry). x.node) same)

-- the node names only cells that are counted

head_within : (k m : ℕ) (h : Head) → HeadNames k h → unwrap_or (option_map (λ (c : CellId). suc c.0) (cell_as_head h)) 0 ≤ m → HeadNames m h
head_within k m (Const c) names low = tt
head_within k m (Logic l) names low = tt
head_within k m (Nominal n a) names low = tt
head_within k m (Cell c) names low = omega (arith, low)
head_within k m (Index i) names low = tt

node_within : (j k m : ℕ) (n : Node) → NodeNames j k n → cells_in_node n ≤ m → NodeNames j m n
node_within j k m (Lam a x t) names low = names
node_within j k m (Spine h ts) names low = (head_within k m h names.0 low, names.1)

head_low : (k : ℕ) (h : Head) → HeadNames k h → unwrap_or (option_map (λ (c : CellId). suc c.0) (cell_as_head h)) 0 ≤ k
head_low k (Const c) names = omega arith
head_low k (Logic l) names = omega arith
head_low k (Nominal n a) names = omega arith
head_low k (Cell c) names = omega (arith, names)
head_low k (Index i) names = omega arith

node_low : (j k : ℕ) (n : Node) → NodeNames j k n → cells_in_node n ≤ k
node_low j k (Lam a x t) names = omega arith
node_low j k (Spine h ts) names = head_low k h names.0

pub cell_there : (store : Contents) (j : ℕ) (n : Node) (c : CellId) → NodeNames j (length store.cells) n → cell_in_node n ≡ Some c → HoldsCell store c
cell_there store j n c names e =
    let low : unwrap_or (option_map (λ (d : CellId). suc d.0) (cell_in_node n)) 0 ≤ length store.cells = node_low j (length store.cells) n names in
    let here : suc c.0 ≤ length store.cells = subst (λ (o : Option CellId). unwrap_or (option_map (λ (d : CellId). suc d.0) o) 0 ≤ length store.cells) e low in
    omega (arith, here)

-- what holds while a mark is raised by one node after another
pub record IsRaised (store : Contents) (first second mark : Mark) (place : ℕ) : Type 0 where
  pub bindings : mark.bindings ≡ second.bindings
  pub nodes : mark.nodes ≡ second.nodes
  pub below : place ≤ second.nodes
  pub more : second.cells ≤ mark.cells
  pub there : mark.cells ≤ length store.cells
  pub counted : (n : ℕ) → first.nodes ≤ n → n < place → cells_in_node (get_or store.nodes n no_node) ≤ mark.cells
  pub least : (mark.cells ≡ second.cells) ⊎ (n : ℕ) × (n < place) × (cells_in_node (get_or store.nodes n no_node) ≡ mark.cells)

pub begun : (store : Contents) (first second : Mark) → IsNoLater first second → second.cells ≤ length store.cells → IsRaised store first second second first.nodes
begun store first second later there = record {
  bindings = refl;
  nodes = refl;
  below = later.1;
  more = omega arith;
  there = there;
  counted = λ n low high. absurd (omega (arith, low, high));
  least = inl refl;
}

below_or_at : (i n : ℕ) → i < n + 1 → (i < n) ⊎ (i ≡ n)
below_or_at i n h = search arith

module _ (store : Contents) (first second mark : Mark) (place : ℕ) (is : IsRaised store first second mark place) (below : place < second.nodes) (n : Node) (here : get_or store.nodes place no_node ≡ n) where
  pub past_none : cell_in_node n ≡ None → IsRaised store first second mark (place + 1)
  past_none none = record {
    bindings = is.bindings;
    nodes = is.nodes;
    below = omega (arith, below);
    more = is.more;
    there = is.there;
    counted = λ j low high. elim (below_or_at j place high) [
      | inl l ↦ is.counted j low l
      | inr e ↦ subst (λ i. cells_in_node (get_or store.nodes i no_node) ≤ mark.cells) (sym e) (omega (arith, none_here))
    ];
    least = elim is.least [ inl e ↦ inl e | inr p ↦ inr (p.0, omega (arith, p.1), p.2) ];
  }
    where
      none_here : cells_in_node (get_or store.nodes place no_node) ≡ 0
      none_here = ap cells_in_node here ∙ ap (λ (o : Option CellId). unwrap_or (option_map (λ (d : CellId). suc d.0) o) 0) none

  pub past_some : (c : CellId) → cell_in_node n ≡ Some c → NodeNames place (length store.cells) n → IsRaised store first second (to_cell mark c) (place + 1)
  past_some c some names = record {
    bindings = is.bindings;
    nodes = is.nodes;
    below = omega (arith, below);
    more = omega (arith, is.more);
    there = omega (arith, is.there, cell_there store place n c names some);
    counted = λ j low high. elim (below_or_at j place high) [
      | inl l ↦ omega (arith, is.counted j low l)
      | inr e ↦ subst (λ i. cells_in_node (get_or store.nodes i no_node) ≤ max mark.cells (suc c.0)) (sym e) (omega (arith, some_here))
    ];
    least = higher (below_or_not mark.cells (suc c.0));
  }
    where
      some_here : cells_in_node (get_or store.nodes place no_node) ≡ suc c.0
      some_here = ap cells_in_node here ∙ ap (λ (o : Option CellId). unwrap_or (option_map (λ (d : CellId). suc d.0) o) 0) some

      below_or_not : (a b : ℕ) → (b ≤ a) ⊎ (a ≤ b)
      below_or_not a b = search arith

      higher : (suc c.0 ≤ mark.cells) ⊎ (mark.cells ≤ suc c.0)
          → (max mark.cells (suc c.0) ≡ second.cells) ⊎ (j : ℕ) × (j < place + 1) × (cells_in_node (get_or store.nodes j no_node) ≡ max mark.cells (suc c.0))
      higher (inl l) =
          let same : mark.cells ≡ max mark.cells (suc c.0) = omega (arith, l) in
          elim is.least [ inl e ↦ inl (sym same ∙ e) | inr p ↦ inr (p.0, omega (arith, p.1), p.2 ∙ same) ]
      higher (inr l) = inr (place, omega arith, omega (arith, some_here, l))

module _ (store : Contents) (first second mark : Mark) (has : HasMark store first) (earlier : NodesNameEarlier (length store.cells) store.nodes) (later : IsNoLater first second) (same : second.bindings ≡ first.bindings)
    (nodes : second.nodes ≤ length store.nodes) (is : IsRaised store first second mark second.nodes) where
  low : (j : ℕ) → j < second.nodes → cells_in_node (get_or store.nodes j no_node) ≤ mark.cells
  low j l = elim (either j first.nodes) [
    | inl h ↦ omega (arith, subst (λ n. cells_in_node n ≤ first.cells) (get_or-take first.nodes store.nodes j no_node h) (node_low j first.cells (get_or (take first.nodes store.nodes) j no_node) (has.nodes_name j no_node (omega (arith, h, length-take-le first.nodes store.nodes has.nodes)))), later.2, is.more)
    | inr h ↦ is.counted j h l
  ]
    where
      either : (i k : ℕ) → (i < k) ⊎ (k ≤ i)
      either i k = search arith

  one : (j : ℕ) (d : Node) → j < length (take mark.nodes store.nodes) → NodeNames j mark.cells (get_or (take mark.nodes store.nodes) j d)
  one j d l =
      let within : j < second.nodes = omega (arith, l, is.nodes, length-take-le mark.nodes store.nodes (omega (arith, is.nodes, nodes))) in
      let there : j < length store.nodes = omega (arith, within, nodes) in
      subst (NodeNames j mark.cells) (sym (get_or-take mark.nodes store.nodes j d (omega (arith, within, is.nodes)) ∙ any_default store.nodes j d no_node there))
      (node_within j (length store.cells) mark.cells (get_or store.nodes j no_node) (earlier j no_node there) (low j within))

  pub raised_has : HasMark store mark
  raised_has = record {
    bindings = omega (arith, is.bindings, same, has.bindings);
    nodes = omega (arith, is.nodes, nodes);
    cells = is.there;
    nodes_name = one;
    bindings_name = subst (λ k. All (λ (b : Binding). (b.cell.0 < mark.cells) × (b.term.0 < mark.nodes)) (take k store.bindings)) (sym (is.bindings ∙ same))
        (All-weaker (λ (b : Binding). (b.cell.0 < first.cells) × (b.term.0 < first.nodes)) (λ (b : Binding). (b.cell.0 < mark.cells) × (b.term.0 < mark.nodes))
        (λ b h. (omega (arith, h.0, later.2, is.more), omega (arith, h.1, later.1, is.nodes))) (take first.bindings store.bindings) has.bindings_name);
  }
