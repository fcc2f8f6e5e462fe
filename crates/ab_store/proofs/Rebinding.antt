-- A sound store with one cell bound, with its last binding undone, and cut by a mark.
use Rattle.std.proofs.Common.{◌≡◌, ℕ, ◌+◌, ◌<◌, ◌≤◌, List, [], ◌∷◌, ◌++◌, map, length, get_or, set, take, Bool, true, false, ◌⊎◌, inl, inr, Option, None, Some, cond, refl, sym, ◌∙◌, ap, subst, arith, length-append, length-take-le, get_or-set_other, length-set, take_all}
use Rattle.std.specs.Prelude.{◌≢◌, All, Contains, ◌==◌}
use Rattle.std.specs.Cmp.{unsigned_Decides}
use Rattle.std.proofs.lemmas.Bool.{cases_eq}
use Rattle.std.proofs.lemmas.List.{map-append, map-set, set-get_or, get_or_at, take-append-le, take-map, get_or-take}
use Rattle.std.proofs.lemmas.List.Elements.{All-push, All-head, All-tail, All-contains}
use Rattle.std.proofs.lemmas.List.Quantifiers.{all_pairs_push}
use Rattle.std.proofs.lemmas.Grind.{get_or-set_at}
use Rattle.ab_term.specs.Types.{Ty}
use Rattle.ab_term.specs.Reach.{reach}
use Rattle.ab_term.specs.Sameness.{same_number}
use Rattle.ab_term.specs.Variables.{image, one_by_one}
use Rattle.ab_term.proofs.Closed.{closed_reach}
use Rattle.ab_term.proofs.InOrder.{one_by_one-append}
use Rattle.ab_types.specs.Entries.{Table, signature}
use Rattle.ab_types.specs.Ids.{type_of}
use Rattle.ab_store.specs.declared.node.TermId.{TermId}
use Rattle.ab_store.specs.declared.node.CellId.{CellId}
use Rattle.ab_store.specs.declared.node.CellEntry.{CellEntry}
use Rattle.ab_store.specs.declared.node.Node.TheVariants.{Lam}
use Rattle.ab_store.specs.declared.node.Binding.{Binding}
use Rattle.ab_store.specs.declared.mark.Mark.{Mark}
use Rattle.ab_store.specs.declared.store.NodeEntry.{NodeEntry}
use Rattle.ab_store.specs.declared.store.Slot.{Slot}
use Rattle.ab_store.specs.Trees.{Contents, Holds, HoldsCell, cell_of, tree_of}
use Rattle.ab_store.specs.Reading.{bound_in, cell_variable, reading}
use Rattle.ab_store.specs.Bindings.{cells_of, StandsIn, IsUnbound, IsResolved, AreInOrder}
use Rattle.ab_store.specs.Marks.{HasMark, KeepsMark, at_mark}
use Rattle.ab_store.specs.Naming.{NodeNames, NodesNameEarlier, BindingIsTyped, IsTypedBy, IsTerm}
use Rattle.ab_store.specs.Layout.{contents, AreSound, HoldOf}
use Rattle.ab_store.proofs.Putting.{pair, is_bound, resolved_reads}
use Rattle.ab_store.proofs.Fronts.{Front, front_same, front_push, All-front}
use Rattle.ab_store.proofs.Agreeing.{Agree, Within, alike, same_cells, order_kept, order_alike, typed_alike, term_alike, reading_alike}
use Rattle.ab_store.proofs.Marking.{keeps, agrees}
use Rattle.ab_store.proofs.Kept.{nodes_of, cells_in, count, count_cells, cell_at}

-- looking up a cell in a list with one binding more
not_same : (i j : ℕ) → (i ≡ j → ⊥) → (i == j) ≡ false
not_same i j differ = go (i == j) refl
  where
    go : (k : Bool) → (i == j) ≡ k → k ≡ false
    go true e = absurd (differ ((unsigned_Decides i j).0 e))
    go false e = refl

pub bound_behind : (bs cs : List Binding) (c : CellId) → bound_in bs c ≡ None → bound_in (bs ++ cs) c ≡ bound_in cs c
bound_behind [] cs c e = refl
bound_behind (b ∷ bs) cs c e = go (bound_behind bs cs c) (b.cell.0 == c.0) e
  where
    go : (bound_in bs c ≡ None → bound_in (bs ++ cs) c ≡ bound_in cs c) → (k : Bool) → cond k (Some b.term) (bound_in bs c) ≡ None → cond k (Some b.term) (bound_in (bs ++ cs) c) ≡ bound_in cs c
    go rest true e = absurd (cc)
    go rest false e = rest e

pub bound_others : (bs : List Binding) (b : Binding) (c : CellId) → (b.cell.0 ≡ c.0 → ⊥) → bound_in (bs ++ b ∷ []) c ≡ bound_in bs c
bound_others [] b c differ = ap (λ k. cond k (Some b.term) None) (not_same b.cell.0 c.0 differ)
bound_others (a ∷ bs) b c differ = ap (λ o. cond (a.cell.0 == c.0) (Some a.term) o) (bound_others bs b c differ)

unbound_among : (bs : List Binding) (c : CellId) → All (λ b. b.cell ≢ c) bs → bound_in bs c ≡ None
unbound_among [] c all = refl
unbound_among (b ∷ bs) c all =
    let here : b.cell ≢ c = All-head (λ (b : Binding). b.cell ≢ c) b bs all in
    ap (λ k. cond k (Some b.term) (bound_in bs c)) (not_same b.cell.0 c.0 (λ e. here (ap (λ n. record { 0 = n }) e)))
    ∙ unbound_among bs c (All-tail (λ (b : Binding). b.cell ≢ c) b bs all)

-- a cell's entry with another binding
module _ (S : List Slot) (i : ℕ) (x : Slot) (o : Option TermId) (here : i < length S) (is : x ≡ get_or S i x) where
  abbrev rebound : List Slot
  rebound = set S i (record { cell = x.cell; binding = o })

  pub cells_stay : cells_in rebound ≡ cells_in S
  cells_stay =
      let same : x.cell ≡ get_or (cells_in S) i x.cell = ap (λ (s : Slot). s.cell) is ∙ sym (cell_at [] S [] i x here) in
      map-set (λ (s : Slot). s.cell) S i (record { cell = x.cell; binding = o })
      ∙ ap (set (cells_in S) i) same
      ∙ set-get_or (cells_in S) i x.cell

  pub bound_here : (j : ℕ) (d : Slot) → j ≡ i → (get_or rebound j d).binding ≡ o
  bound_here j d e = ap (λ (s : Slot). s.binding) (get_or-set_at S i j (record { cell = x.cell; binding = o }) d e here)

  pub bound_elsewhere : (j : ℕ) (d : Slot) → (j ≡ i → ⊥) → (get_or rebound j d).binding ≡ (get_or S j d).binding
  bound_elsewhere j d differ = ap (λ (s : Slot). s.binding) (get_or-set_other S i j (record { cell = x.cell; binding = o }) d differ)

-- binding a cell
module _ (E : List NodeEntry) (S : List Slot) (T : List Binding) (c : CellId) (u : TermId) (x : Slot) (r q : ℕ)
    (ok : AreSound E S T) (is : x ≡ get_or S c.0 x) (held : HoldsCell (contents E S T r) c) where
  abbrev old : Contents
  old = contents E S T r

  abbrev b : Binding
  b = record { cell = c; term = u }

  abbrev S2 : List Slot
  S2 = set S c.0 (record { cell = x.cell; binding = Some u })

  abbrev new : Contents
  new = contents E S2 (T ++ b ∷ []) q

  -- the new cells with the old bindings
  abbrev mid : Contents
  mid = contents E S2 T 0

  here : c.0 < length S
  here = omega (arith, held, count_cells E S T r)

  pub bind_cells : cells_in S2 ≡ cells_in S
  bind_cells = cells_stay S c.0 x (Some u) here is

  agree : Agree old new (length (nodes_of E)) (length (cells_in S))
  agree = alike old new (length (nodes_of E)) (length (cells_in S)) refl bind_cells

  module _ (unbound : IsUnbound old c) where
    bound : (y : CellId) (d : Slot) → y.0 < length S2 → (get_or S2 y.0 d).binding ≡ bound_in (T ++ b ∷ []) y
    bound y d h = go (cases_eq y.0 c.0)
      where
        go : (y.0 ≡ c.0) ⊎ (y.0 ≡ c.0 → ⊥) → (get_or S2 y.0 d).binding ≡ bound_in (T ++ b ∷ []) y
        go (inl e) =
            let one : c ≡ y = ap (λ n. record { 0 = n }) (sym e) in
            let itself : (c.0 == c.0) ≡ true = (unsigned_Decides c.0 c.0).1 refl in
            bound_here S c.0 x (Some u) here is y.0 d e
            ∙ sym (ap (λ y. bound_in (T ++ b ∷ []) y) (sym one) ∙ bound_behind T (b ∷ []) c unbound ∙ ap (λ k. cond k (Some u) None) itself)
        go (inr differ) =
            bound_elsewhere S c.0 x (Some u) here is y.0 d differ
            ∙ ok.bound y d (omega (arith, h, length-set S c.0 (record { cell = x.cell; binding = Some u })))
            ∙ sym (bound_others T b y (λ e. differ (sym e)))

    module _ (term : Holds old u) (apart : StandsIn old c u → ⊥) (resolved : IsResolved old u) where
      bind_order : AreInOrder (contents E S2 (T ++ b ∷ []) 0)
      bind_order =
          let kept : AreInOrder mid = order_alike (contents E S T 0) mid refl bind_cells (front_same T T refl) ok.order in
          let stands : (y : CellId) → StandsIn new y u → StandsIn old y u = λ y. subst (λ l. Contains l y) (same_cells old new (length (nodes_of E)) (length (cells_in S)) agree u term) in
          record {
            held = All-push (λ (a : Binding). HoldsCell mid a.cell × Holds mid a.term) T b kept.held (omega (arith, held, ap length bind_cells), term);
            once = all_pairs_push (λ (a b : Binding). a.cell ≢ b.cell) T b kept.once (λ k d l e. is_bound T k d l (subst (λ y. bound_in T y ≡ None) (sym e) unbound));
            apart = All-push (λ (a : Binding). StandsIn mid a.cell a.term → ⊥) T b kept.apart (λ s. apart (stands c s));
            later = all_pairs_push (λ (a b : Binding). StandsIn mid a.cell b.term → ⊥) T b kept.later
                (λ k d l s. is_bound T k d l (All-contains (IsUnbound old) (cells_of old u) (get_or T k d).cell resolved (stands (get_or T k d).cell s)));
          }

      pub bind_sound : (types : Table) (A : Ty) → IsTerm types old [] u A → AreSound E S2 (T ++ b ∷ [])
      bind_sound types A typed = record {
        earlier = subst (λ k. NodesNameEarlier k (nodes_of E)) (sym (ap length bind_cells)) ok.earlier;
        facts = λ more t d h. subst (HoldOf (get_or E t.0 d).facts) (sym (agree.trees more t (omega (arith, h, count E S T r)))) (ok.facts more t d h);
        bound = bound;
        order = bind_order;
        closed = λ more. All-push (λ (a : Binding). reach (tree_of more mid a.term) ≤ 0) T b
            (λ i d l. subst (λ v. reach v ≤ 0) (sym (agree.trees more (get_or T i d).term (ok.order.held i d l).1)) (ok.closed more i d l))
            (subst (λ v. reach v ≤ 0) (sym (agree.trees more u term)) (closed more));
      }
        where
          closed : (more : Table) → reach (tree_of more old u) ≤ 0
          closed more =
              let d : NodeEntry = get_or E u.0 (record { node = Lam (record { 0 = 0 }) [] u; facts = record { reach = 0; nominals = false; cells = false } }) in
              let low : u.0 < length E = omega (arith, term, count E S T r) in
              omega (arith, (ok.facts more u d low).reach, (ok.facts types u d low).reach, closed_reach (signature types) typed.1)

    pub bind_reads : IsResolved old u → Holds old u → (types : Table) (t : TermId) → Holds old t → reading types new t ≡ image same_number ((cell_variable types old c, reading types old u) ∷ []) (reading types old t)
    bind_reads resolved term types t h =
        ap (λ l. one_by_one same_number l (tree_of types new t)) (map-append (pair types new) T (b ∷ []))
        ∙ one_by_one-append same_number (map (pair types new) T) (pair types new b ∷ []) (tree_of types new t)
        ∙ ap (image same_number (pair types new b ∷ [])) (reading_alike old mid refl bind_cells refl types t)
        ∙ ap (λ e. image same_number ((record { name = c.0; type = type_of types e.ty }, tree_of types new u) ∷ []) (reading types old t)) (agree.cells c held)
        ∙ ap (λ v. image same_number ((cell_variable types old c, v) ∷ []) (reading types old t)) (agree.trees types u term ∙ sym (resolved_reads types old u resolved))

  pub bind_typed : (types : Table) → IsTypedBy types old → IsTerm types old [] u (type_of types (cell_of old c).ty) → IsTypedBy types new
  bind_typed types typed term =
      let kept : IsTypedBy types mid = typed_alike old mid refl bind_cells (front_same T T refl) types typed in
      let fits : IsTerm types mid [] u (type_of types (cell_of mid c).ty) =
      subst (λ (e : CellEntry). IsTerm types mid [] u (type_of types e.ty)) (sym (agree.cells c held)) (term_alike old mid refl bind_cells types [] u (type_of types (cell_of old c).ty) term) in
      record {
        earlier = kept.earlier;
        nodes = kept.nodes;
        cells = kept.cells;
        bindings = All-push (BindingIsTyped types mid) T b kept.bindings (omega (arith, held, ap length bind_cells), fits);
      }

  pub bind_terms : (types : Table) (G : List Ty) (t : TermId) (A : Ty) → IsTerm types old G t A → IsTerm types new G t A
  bind_terms = term_alike old new refl bind_cells

  pub bind_marks : (m : Mark) → HasMark old m → KeepsMark old new m
  bind_marks m has =
      keeps old new m has (omega (arith, has.bindings, length-append T (b ∷ []))) has.nodes (omega (arith, has.cells, ap length bind_cells))
      (take-append-le m.bindings T (b ∷ []) has.bindings) refl (ap (take m.cells) bind_cells)

-- undoing the last binding
module _ (E : List NodeEntry) (S : List Slot) (T U : List Binding) (b : Binding) (x : Slot)
    (ok : AreSound E S T) (last : T ≡ U ++ b ∷ []) (is : x ≡ get_or S b.cell.0 x) where
  abbrev undone : List Slot
  undone = set S b.cell.0 (record { cell = x.cell; binding = None })

  front : Front U T
  front = subst (Front U) (sym last) (front_push U b)

  more : length T ≡ length U + 1
  more = omega (arith, ap length last, length-append U (b ∷ []))

  at_end : (d : Binding) → get_or T (length U) d ≡ b
  at_end d = ap (λ l. get_or l (length U) d) last ∙ get_or_at U b [] d (length U) refl

  pub last_held : b.cell.0 < length S
  last_held = omega (arith, count_cells E S T 0, subst (λ (a : Binding). a.cell.0 < length (cells_in S)) (at_end b) (ok.order.held (length U) b (omega (arith, more))).0)

  pub undone_cells : cells_in undone ≡ cells_in S
  undone_cells = cells_stay S b.cell.0 x None last_held is

  others : All (λ a. a.cell ≢ b.cell) U
  others i d l =
      subst (λ (a : Binding). (get_or U i d).cell ≢ a.cell) (at_end d)
      (subst (λ (a : Binding). a.cell ≢ (get_or T (length U) d).cell) (sym (front.alike i d l)) (ok.order.once i (length U) d l (omega (arith, more))))

  undone_bound : (y : CellId) (d : Slot) → y.0 < length undone → (get_or undone y.0 d).binding ≡ bound_in U y
  undone_bound y d h = go (cases_eq y.0 b.cell.0)
    where
      go : (y.0 ≡ b.cell.0) ⊎ (y.0 ≡ b.cell.0 → ⊥) → (get_or undone y.0 d).binding ≡ bound_in U y
      go (inl e) =
          let one : b.cell ≡ y = ap (λ n. record { 0 = n }) (sym e) in
          bound_here S b.cell.0 x None last_held is y.0 d e ∙ sym (ap (bound_in U) (sym one) ∙ unbound_among U b.cell others)
      go (inr differ) =
          bound_elsewhere S b.cell.0 x None last_held is y.0 d differ
          ∙ ok.bound y d (omega (arith, h, length-set S b.cell.0 (record { cell = x.cell; binding = None })))
          ∙ ap (λ l. bound_in l y) last
          ∙ bound_others U b y (λ e. differ (sym e))

  pub undone_sound : AreSound E undone U
  undone_sound =
      let agree = alike (contents E S T 0) (contents E undone U 0) (length (nodes_of E)) (length (cells_in S)) refl undone_cells in
      record {
        earlier = subst (λ k. NodesNameEarlier k (nodes_of E)) (sym (ap length undone_cells)) ok.earlier;
        facts = λ types t d h. subst (HoldOf (get_or E t.0 d).facts) (sym (agree.trees types t (omega (arith, h, count E S T 0)))) (ok.facts types t d h);
        bound = undone_bound;
        order = order_alike (contents E S T 0) (contents E undone U 0) refl undone_cells front ok.order;
        closed = λ types i d l.
            subst (λ v. reach v ≤ 0) (sym (agree.trees types (get_or U i d).term (All-front (Within (length (nodes_of E)) (length (cells_in S))) U T front ok.order.held i d l).1))
            (All-front (λ (a : Binding). reach (tree_of types (contents E S T 0) a.term) ≤ 0) U T front (ok.closed types) i d l);
      }

-- cutting by a mark, once its bindings are the store's
module _ (E : List NodeEntry) (S : List Slot) (T : List Binding) (m : Mark) (ok : AreSound E S T) (has : HasMark (contents E S T 0) m) (all : length T ≡ m.bindings) where
  abbrev cut : Contents
  cut = contents (take m.nodes E) (take m.cells S) T 0

  cut_nodes : nodes_of (take m.nodes E) ≡ take m.nodes (nodes_of E)
  cut_nodes = sym (take-map (λ (e : NodeEntry). e.node) m.nodes E)

  cut_cells : cells_in (take m.cells S) ≡ take m.cells (cells_in S)
  cut_cells = sym (take-map (λ (s : Slot). s.cell) m.cells S)

  marked : Contents
  marked = at_mark (contents E S T 0) m

  cut_agree : Agree (contents E S T 0) cut m.nodes m.cells
  cut_agree =
      let first = agrees (contents E S T 0) m has in
      let second = alike (at_mark (contents E S T 0) m) cut m.nodes m.cells cut_nodes cut_cells in
      record { trees = λ types t h. second.trees types t h ∙ first.trees types t h; cells = λ c h. second.cells c h ∙ first.cells c h }

  nodes_left : length (take m.nodes E) ≡ m.nodes
  nodes_left = length-take-le m.nodes E (omega (arith, has.nodes, count E S T 0))

  cells_left : length (take m.cells S) ≡ m.cells
  cells_left = length-take-le m.cells S (omega (arith, has.cells, count_cells E S T 0))

  within : All (Within m.nodes m.cells) T
  within = subst (All (Within m.nodes m.cells)) (take_all m.bindings T (omega (arith, all))) has.bindings_name

  pub cut_sound : AreSound (take m.nodes E) (take m.cells S) T
  cut_sound = record {
    earlier = λ j d h. subst (λ k. NodeNames j k (get_or (nodes_of (take m.nodes E)) j d)) (sym (count_cells (take m.nodes E) (take m.cells S) T 0 ∙ cells_left)) (subst (NodesNameEarlier m.cells) (sym cut_nodes) has.nodes_name j d h);
    facts = λ types t d h.
        let low : t.0 < m.nodes = omega (arith, h, nodes_left) in
        rw (get_or-take m.nodes E t.0 d low) (subst (HoldOf (get_or E t.0 d).facts) (sym (cut_agree.trees types t low)) (ok.facts types t d (omega (arith, low, has.nodes, count E S T 0))));
    bound = λ c d h.
        let low : c.0 < m.cells = omega (arith, h, cells_left) in
        ap (λ (s : Slot). s.binding) (get_or-take m.cells S c.0 d low) ∙ ok.bound c d (omega (arith, low, has.cells, count_cells E S T 0));
    order = order_kept (contents E S T 0) cut m.nodes m.cells cut_agree (omega (arith, nodes_left, count (take m.nodes E) (take m.cells S) T 0)) (omega (arith, cells_left, count_cells (take m.nodes E) (take m.cells S) T 0)) (front_same T T refl) within ok.order;
    closed = λ types i d l. subst (λ v. reach v ≤ 0) (sym (cut_agree.trees types (get_or T i d).term (within i d l).1)) (ok.closed types i d l);
  }
