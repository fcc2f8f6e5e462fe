-- What holds of a sound store, and of it with one entry or one cell more.
use Rattle.std.proofs.Common.{◌≡◌, ℕ, ◌+◌, ◌<◌, ◌≤◌, List, [], ◌∷◌, ◌++◌, map, length, get_or, take, Bool, true, false, ◌⊎◌, inl, inr, None, Some, cond, refl, sym, ◌∙◌, ap, subst, arith, length-append}
use Rattle.std.specs.Prelude.{All, Contains, ◌==◌}
use Rattle.std.specs.Cmp.{unsigned_Decides}
use Rattle.std.proofs.lemmas.Bool.{cases_lt}
use Rattle.std.proofs.lemmas.List.{get_or-map, map-append, length-map, get_or_push, get_or_append_left, take-append-le}
use Rattle.std.proofs.lemmas.List.Elements.{All-push, All-map, All-head, All-tail}
use Rattle.ab_term.specs.Types.{Ty}
use Rattle.ab_term.specs.Terms.{Variable}
use Rattle.ab_term.specs.Typing.{HasType}
use Rattle.ab_term.specs.Reach.{reach}
use Rattle.ab_term.specs.Variables.{variables, one_by_one}
use Rattle.ab_term.specs.Sameness.{same_number}
use Rattle.ab_term.proofs.Lists.{Contains-none}
use Rattle.ab_types.specs.Entries.{Table, signature}
use Rattle.ab_types.specs.Ids.{HoldsType}
use Rattle.ab_store.specs.declared.node.TermId.{TermId}
use Rattle.ab_store.specs.declared.node.CellId.{CellId}
use Rattle.ab_store.specs.declared.node.Head.{Head}
use Rattle.ab_store.specs.declared.node.Head.TheVariants.{Const, Logic, Nominal, Cell, Index}
use Rattle.ab_store.specs.declared.node.Node.{Node}
use Rattle.ab_store.specs.declared.node.Node.TheVariants.{Lam, Spine}
use Rattle.ab_store.specs.declared.node.CellEntry.{CellEntry}
use Rattle.ab_store.specs.declared.node.Binding.{Binding}
use Rattle.ab_store.specs.declared.store.NodeEntry.{NodeEntry}
use Rattle.ab_store.specs.declared.store.Slot.{Slot}
use Rattle.ab_store.specs.Trees.{Contents, Holds, HoldsCell, tree_of, node_tree, trees}
use Rattle.ab_store.specs.Reading.{bound_in, pairs, reading, node_reading}
use Rattle.ab_store.specs.Bindings.{AreInOrder}
use Rattle.ab_store.specs.Growth.{IsExtendedBy}
use Rattle.ab_store.specs.Naming.{HeadNames, NodeNames, NodeIsTyped, NodesNameEarlier, IsTypedBy, IsTerm}
use Rattle.ab_store.specs.Layout.{contents, AreSound, HoldOf}
use Rattle.ab_store.proofs.Nodes.{none, terms_from-append, length-terms_from, terms_from-at, terms_from-more}
use Rattle.ab_store.proofs.Cells.{numbers}
use Rattle.ab_store.proofs.Putting.{Pair, pair, all_unmoved, reach_put, node_reads}
use Rattle.ab_store.proofs.Fronts.{front_same}
use Rattle.ab_store.proofs.Agreeing.{Agree, Within, same_pairs, same_reading, order_kept, order_alike, bindings_typed}
use Rattle.ab_store.proofs.Marking.{keeps}

more_head_names : (i k : ℕ) (h : Head) → i ≤ k → HeadNames i h → HeadNames k h
more_head_names i k (Const x) l h = h
more_head_names i k (Logic x) l h = h
more_head_names i k (Nominal n a) l h = h
more_head_names i k (Cell x) l h = omega arith
more_head_names i k (Index x) l h = h

more_names : (j i k : ℕ) (n : Node) → i ≤ k → NodeNames j i n → NodeNames j k n
more_names j i k (Lam a x t) l h = h
more_names j i k (Spine g ts) l h = (more_head_names i k g l h.0, h.1)

abbrev pub nodes_of : List NodeEntry → List Node
nodes_of = map (λ e. e.node)

abbrev pub cells_in : List Slot → List CellEntry
cells_in = map (λ s. s.cell)

-- a cell that isn't among those of the bindings
pub unbound_above : (n m : ℕ) (bs : List Binding) (c : CellId) → All (Within n m) bs → m ≤ c.0 → bound_in bs c ≡ None
unbound_above n m [] c all h = refl
unbound_above n m (b ∷ bs) c all h = go (unbound_above n m bs c (All-tail (Within n m) b bs all) h) (b.cell.0 == c.0) refl
  where
    go : bound_in bs c ≡ None → (k : Bool) → (b.cell.0 == c.0) ≡ k → cond k (Some b.term) (bound_in bs c) ≡ None
    go rest true e = absurd (omega (arith, (unsigned_Decides b.cell.0 c.0).0 e, (All-head (Within n m) b bs all).0, h))
    go rest false e = rest

module _ (E : List NodeEntry) (S : List Slot) (T : List Binding) where
  pub count : (r : ℕ) → length (contents E S T r).nodes ≡ length E
  count r = length-map E (λ (e : NodeEntry). e.node)

  pub count_cells : (r : ℕ) → length (contents E S T r).cells ≡ length S
  count_cells r = length-map S (λ (s : Slot). s.cell)

  pub held : (r : ℕ) (t : TermId) → Holds (contents E S T r) t → t.0 < length E
  held r t h = omega (arith, h, count r)

  pub held_cell : (r : ℕ) (c : CellId) → HoldsCell (contents E S T r) c → c.0 < length S
  held_cell r c h = omega (arith, h, count_cells r)

  node_at : (i : ℕ) (d : NodeEntry) → i < length E → get_or (nodes_of E) i d.node ≡ (get_or E i d).node
  node_at i d h = get_or-map (λ (e : NodeEntry). e.node) E i d d.node h

  pub cell_at : (i : ℕ) (d : Slot) → i < length S → get_or (cells_in S) i d.cell ≡ (get_or S i d).cell
  cell_at i d h = get_or-map (λ (s : Slot). s.cell) S i d d.cell h

  trees_count : (types : Table) → length (trees types (contents E S T 0)) ≡ length (nodes_of E)
  trees_count types = omega (arith, length-terms_from types (cells_in S) [] (nodes_of E))

  module _ (ok : AreSound E S T) (r : ℕ) where
    pub names_at : (t : TermId) (d : NodeEntry) → t.0 < length E → NodeNames t.0 (length (cells_in S)) (get_or E t.0 d).node
    names_at t d h = subst (NodeNames t.0 (length (cells_in S))) (node_at t.0 d h) (ok.earlier t.0 d.node (omega (arith, count r)))

    pub tree_at : (types : Table) (t : TermId) (d : NodeEntry) → t.0 < length E → tree_of types (contents E S T r) t ≡ node_tree types (contents E S T r) (get_or E t.0 d).node
    tree_at types t d h =
        terms_from-at types (cells_in S) (length (cells_in S)) (nodes_of E) t d.node ok.earlier (omega (arith, count r))
        ∙ ap (node_tree types (contents E S T r)) (node_at t.0 d h)

    pub order_at : AreInOrder (contents E S T r)
    order_at = order_alike (contents E S T 0) (contents E S T r) refl refl (front_same T T refl) ok.order

    pub reads_at : (types : Table) (G : List Ty) (A : Ty) (t : TermId) (d : NodeEntry) → t.0 < length E → IsTypedBy types (contents E S T r) → IsTerm types (contents E S T r) G t A
        → reading types (contents E S T r) t ≡ node_reading types (contents E S T r) (get_or E t.0 d).node
    reads_at types G A t d h typed is =
        ap (one_by_one same_number (pairs types (contents E S T r))) (tree_at types t d h)
        ∙ node_reads types (contents E S T r) typed order_at (get_or E t.0 d).node G A (subst (λ u. HasType (signature types) G u A) (tree_at types t d h) is.1)

    pub typed_at : (types : Table) (t : TermId) (d : NodeEntry) → t.0 < length E → IsTypedBy types (contents E S T r) → NodeIsTyped types (get_or E t.0 d).node
    typed_at types t d h typed = subst (NodeIsTyped types) (node_at t.0 d h) (typed.nodes t.0 d.node (omega (arith, count r)))

    pub reach_at : (types : Table) (t : TermId) → reach (reading types (contents E S T r) t) ≤ reach (tree_of types (contents E S T r) t)
    reach_at types t =
        reach_put (pairs types (contents E S T r)) (tree_of types (contents E S T r) t) (All-map (λ (p : Pair). reach p.1 ≤ 0) (pair types (contents E S T r)) T (ok.closed types))

  -- with one entry more
  module _ (e : NodeEntry) (r : ℕ) where
    nodes_pushed : nodes_of (E ++ e ∷ []) ≡ nodes_of E ++ e.node ∷ []
    nodes_pushed = map-append (λ (e : NodeEntry). e.node) E (e ∷ [])

    more : length (nodes_of (E ++ e ∷ [])) ≡ length (nodes_of E) + 1
    more = omega (arith, ap length nodes_pushed, length-append (nodes_of E) (e.node ∷ []))

    pushed : (types : Table) → trees types (contents (E ++ e ∷ []) S T r) ≡ trees types (contents E S T r) ++ node_tree types (contents E S T r) e.node ∷ []
    pushed types =
        ap (λ ns. trees types (record { nodes = ns; cells = cells_in S; bindings = T; room = r })) nodes_pushed
        ∙ terms_from-append types (cells_in S) [] (nodes_of E) (e.node ∷ [])

    pub new_tree : (types : Table) (t : TermId) → t.0 ≡ length E → tree_of types (contents (E ++ e ∷ []) S T r) t ≡ node_tree types (contents E S T r) e.node
    new_tree types t place =
        ap (λ l. get_or l t.0 none) (pushed types)
        ∙ get_or_push (trees types (contents E S T r)) (node_tree types (contents E S T r) e.node) none t.0 (omega (arith, trees_count types, count 0, place))

    pub new_held : (t : TermId) → t.0 ≡ length E → Holds (contents (E ++ e ∷ []) S T r) t
    new_held t place = omega (arith, more, count 0, place)

    agree : Agree (contents E S T r) (contents (E ++ e ∷ []) S T r) (length (nodes_of E)) (length (cells_in S))
    agree = record {
      trees = λ types t h. ap (λ l. get_or l t.0 none) (pushed types) ∙ get_or_append_left (trees types (contents E S T r)) (node_tree types (contents E S T r) e.node ∷ []) none t.0 (omega (arith, h, trees_count types));
      cells = λ c h. refl;
    }

    pub extended : AreSound E S T → IsExtendedBy (contents E S T r) (contents (E ++ e ∷ []) S T r)
    extended ok = record {
      ids = λ t h. omega (arith, h, more);
      trees = agree.trees;
      readings = λ types t h. same_reading (contents E S T r) (contents (E ++ e ∷ []) S T r) (length (nodes_of E)) (length (cells_in S)) agree refl ok.order.held types t h;
      cell_ids = λ c h. h;
      cells = λ c h. refl;
      bindings = refl;
      room = omega arith;
      marks = λ m has. keeps (contents E S T r) (contents (E ++ e ∷ []) S T r) m has has.bindings (omega (arith, has.nodes, more)) has.cells refl
          (ap (take m.nodes) nodes_pushed ∙ take-append-le m.nodes (nodes_of E) (e.node ∷ []) has.nodes) refl;
    }

    earlier_pushed : NodesNameEarlier (length (cells_in S)) (nodes_of E) → NodeNames (length (nodes_of E)) (length (cells_in S)) e.node → NodesNameEarlier (length (cells_in S)) (nodes_of E ++ e.node ∷ [])
    earlier_pushed names last j d h = go (cases_lt j (length (nodes_of E)))
      where
        go : (j < length (nodes_of E)) ⊎ (length (nodes_of E) ≤ j) → NodeNames j (length (cells_in S)) (get_or (nodes_of E ++ e.node ∷ []) j d)
        go (inl l) = rw (get_or_append_left (nodes_of E) (e.node ∷ []) d j l) (names j d l)
        go (inr l) =
            let at : length (nodes_of E) ≡ j = omega (arith, h, l, length-append (nodes_of E) (e.node ∷ [])) in
            rw (get_or_push (nodes_of E) e.node d j at) (subst (λ i. NodeNames i (length (cells_in S)) e.node) at last)

    pub typed_pushed : AreSound E S T → NodeNames (length (nodes_of E)) (length (cells_in S)) e.node → (types : Table) → IsTypedBy types (contents E S T r) → NodeIsTyped types e.node → IsTypedBy types (contents (E ++ e ∷ []) S T r)
    typed_pushed ok names types typed new = record {
      earlier = subst (NodesNameEarlier (length (cells_in S))) (sym nodes_pushed) (earlier_pushed typed.earlier names);
      nodes = subst (All (NodeIsTyped types)) (sym nodes_pushed) (All-push (NodeIsTyped types) (nodes_of E) e.node typed.nodes new);
      cells = typed.cells;
      bindings = bindings_typed (contents E S T r) (contents (E ++ e ∷ []) S T r) (length (nodes_of E)) (length (cells_in S)) agree (omega (arith, more)) (omega arith) (front_same T T refl) ok.order.held types typed.bindings;
    }

    -- what the new id reads as
    pub new_put : AreSound E S T → (types : Table) (t : TermId) → t.0 ≡ length E → reading types (contents (E ++ e ∷ []) S T r) t ≡ one_by_one same_number (pairs types (contents E S T r)) (node_tree types (contents E S T r) e.node)
    new_put ok types t place =
        ap (λ u. one_by_one same_number (pairs types (contents (E ++ e ∷ []) S T r)) u) (new_tree types t place)
        ∙ ap (λ ps. one_by_one same_number ps (node_tree types (contents E S T r) e.node)) (same_pairs (contents E S T r) (contents (E ++ e ∷ []) S T r) (length (nodes_of E)) (length (cells_in S)) agree types T ok.order.held)

    -- and where it is a term
    pub new_reads : AreSound E S T → (types : Table) (G : List Ty) (A : Ty) (t : TermId) → t.0 ≡ length E → IsTypedBy types (contents E S T r) → IsTerm types (contents (E ++ e ∷ []) S T r) G t A
        → reading types (contents (E ++ e ∷ []) S T r) t ≡ node_reading types (contents E S T r) e.node
    new_reads ok types G A t place typed is =
        new_put ok types t place
        ∙ node_reads types (contents E S T r) typed (order_at ok r) e.node G A (subst (λ u. HasType (signature types) G u A) (new_tree types t place) is.1)

  pub sound_pushed : (e : NodeEntry) → AreSound E S T → NodeNames (length (nodes_of E)) (length (cells_in S)) e.node → ((types : Table) → HoldOf e.facts (node_tree types (contents E S T 0) e.node)) → AreSound (E ++ e ∷ []) S T
  sound_pushed e ok names told = record {
    earlier = subst (NodesNameEarlier (length (cells_in S))) (sym (nodes_pushed e 0)) (earlier_pushed e 0 ok.earlier names);
    facts = λ types t d h. facts types t d h (cases_lt t.0 (length E));
    bound = ok.bound;
    order = order_kept old new (length (nodes_of E)) (length (cells_in S)) (agree e 0) (omega (arith, more e 0)) (omega arith) (front_same T T refl) ok.order.held ok.order;
    closed = λ types i d h. subst (λ u. reach u ≤ 0) (sym ((agree e 0).trees types (get_or T i d).term (ok.order.held i d h).1)) (ok.closed types i d h);
  }
    where
      old : Contents
      old = contents E S T 0

      new : Contents
      new = contents (E ++ e ∷ []) S T 0

      facts : (types : Table) (t : TermId) (d : NodeEntry) → t.0 < length (E ++ e ∷ []) → (t.0 < length E) ⊎ (length E ≤ t.0) → HoldOf (get_or (E ++ e ∷ []) t.0 d).facts (tree_of types (contents (E ++ e ∷ []) S T 0) t)
      facts types t d h (inl l) =
          rw (get_or_append_left E (e ∷ []) d t.0 l) (subst (HoldOf (get_or E t.0 d).facts) (sym ((agree e 0).trees types t (omega (arith, l, count 0)))) (ok.facts types t d l))
      facts types t d h (inr l) =
          let at : length E ≡ t.0 = omega (arith, h, l, length-append E (e ∷ [])) in
          rw (get_or_push E e d t.0 at) (subst (HoldOf e.facts) (sym (new_tree e 0 types t (sym at))) (told types))

  -- with one cell more, which is unbound
  module _ (s : Slot) (ok : AreSound E S T) (r : ℕ) where
    cells_pushed : cells_in (S ++ s ∷ []) ≡ cells_in S ++ s.cell ∷ []
    cells_pushed = map-append (λ (s : Slot). s.cell) S (s ∷ [])

    more_cells : length (cells_in (S ++ s ∷ [])) ≡ length (cells_in S) + 1
    more_cells = omega (arith, ap length cells_pushed, length-append (cells_in S) (s.cell ∷ []))

    trees_with_cell : (types : Table) → trees types (contents E (S ++ s ∷ []) T r) ≡ trees types (contents E S T r)
    trees_with_cell types =
        ap (λ cs. trees types (record { nodes = nodes_of E; cells = cs; bindings = T; room = r })) cells_pushed
        ∙ terms_from-more types (cells_in S) (s.cell ∷ []) [] (nodes_of E) (λ j d l. (j, ok.earlier j d l))

    agree_cell : Agree (contents E S T r) (contents E (S ++ s ∷ []) T r) (length (nodes_of E)) (length (cells_in S))
    agree_cell = record {
      trees = λ types t h. ap (λ l. get_or l t.0 none) (trees_with_cell types);
      cells = λ c h. ap (λ cs. get_or cs c.0 (record { hint = []; ty = record { 0 = 0 } })) cells_pushed ∙ get_or_append_left (cells_in S) (s.cell ∷ []) _ c.0 h;
    }

    earlier_with_cell : NodesNameEarlier (length (cells_in (S ++ s ∷ []))) (nodes_of E)
    earlier_with_cell j d h = more_names j (length (cells_in S)) (length (cells_in (S ++ s ∷ []))) (get_or (nodes_of E) j d) (omega (arith, more_cells)) (ok.earlier j d h)

    pub extended_by_cell : IsExtendedBy (contents E S T r) (contents E (S ++ s ∷ []) T r)
    extended_by_cell = record {
      ids = λ t h. h;
      trees = agree_cell.trees;
      readings = λ types t h. same_reading (contents E S T r) (contents E (S ++ s ∷ []) T r) (length (nodes_of E)) (length (cells_in S)) agree_cell refl ok.order.held types t h;
      cell_ids = λ c h. omega (arith, h, more_cells);
      cells = agree_cell.cells;
      bindings = refl;
      room = omega arith;
      marks = λ m has. keeps (contents E S T r) (contents E (S ++ s ∷ []) T r) m has has.bindings has.nodes (omega (arith, has.cells, more_cells)) refl refl
          (ap (take m.cells) cells_pushed ∙ take-append-le m.cells (cells_in S) (s.cell ∷ []) has.cells);
    }

    pub typed_with_cell : (types : Table) → IsTypedBy types (contents E S T r) → HoldsType types s.cell.ty → IsTypedBy types (contents E (S ++ s ∷ []) T r)
    typed_with_cell types typed new = record {
      earlier = earlier_with_cell;
      nodes = typed.nodes;
      cells = subst (All (λ (c : CellEntry). HoldsType types c.ty)) (sym cells_pushed) (All-push (λ (c : CellEntry). HoldsType types c.ty) (cells_in S) s.cell typed.cells new);
      bindings = bindings_typed (contents E S T r) (contents E (S ++ s ∷ []) T r) (length (nodes_of E)) (length (cells_in S)) agree_cell (omega arith) (omega (arith, more_cells)) (front_same T T refl) ok.order.held types typed.bindings;
    }

    pub new_cell : (c : CellId) → c.0 ≡ length S → get_or (cells_in (S ++ s ∷ [])) c.0 (record { hint = []; ty = record { 0 = 0 } }) ≡ s.cell
    new_cell c place =
        ap (λ cs. get_or cs c.0 (record { hint = []; ty = record { 0 = 0 } })) cells_pushed
        ∙ get_or_push (cells_in S) s.cell _ c.0 (omega (arith, count_cells r, place))

    pub new_unbound : (c : CellId) → c.0 ≡ length S → bound_in T c ≡ None
    new_unbound c place = unbound_above (length (nodes_of E)) (length (cells_in S)) T c ok.order.held (omega (arith, count_cells r, place))

  pub sound_with_cell : (s : Slot) → s.binding ≡ None → AreSound E S T → AreSound E (S ++ s ∷ []) T
  sound_with_cell s unbound ok = record {
    earlier = earlier_with_cell s ok 0;
    facts = λ types t d h. subst (HoldOf (get_or E t.0 d).facts) (sym ((agree_cell s ok 0).trees types t (omega (arith, h, count 0)))) (ok.facts types t d h);
    bound = λ c d h. bound c d h (cases_lt c.0 (length S));
    order = order_kept (contents E S T 0) (contents E (S ++ s ∷ []) T 0) (length (nodes_of E)) (length (cells_in S)) (agree_cell s ok 0) (omega arith) (omega (arith, more_cells s ok 0)) (front_same T T refl) ok.order.held ok.order;
    closed = λ types i d h. subst (λ u. reach u ≤ 0) (sym ((agree_cell s ok 0).trees types (get_or T i d).term (ok.order.held i d h).1)) (ok.closed types i d h);
  }
    where
      bound : (c : CellId) (d : Slot) → c.0 < length (S ++ s ∷ []) → (c.0 < length S) ⊎ (length S ≤ c.0) → (get_or (S ++ s ∷ []) c.0 d).binding ≡ bound_in T c
      bound c d h (inl l) = ap (λ x. x.binding) (get_or_append_left S (s ∷ []) d c.0 l) ∙ ok.bound c d l
      bound c d h (inr l) =
          let at : length S ≡ c.0 = omega (arith, h, l, length-append S (s ∷ [])) in
          ap (λ x. x.binding) (get_or_push S s d c.0 at) ∙ unbound ∙ sym (new_unbound s ok 0 c (sym at))

-- terms without cells, and stores without bindings
pub plain_reads : (types : Table) (store : Contents) (t : TermId) → variables (tree_of types store t) ≡ [] → reading types store t ≡ tree_of types store t
plain_reads types store t none =
    let gone : numbers (tree_of types store t) ≡ [] = ap (map (λ (x : Variable ℕ). x.name)) none in
    all_unmoved (pairs types store) (tree_of types store t) (λ i d l m. Contains-none (get_or (pairs types store) i d).0.name (subst (λ l. Contains l (get_or (pairs types store) i d).0.name) gone m))
