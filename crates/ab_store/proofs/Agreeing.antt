-- Stores in which ids and cells stand for the same, and what they have in common.
use Rattle.std.proofs.Common.{◌≡◌, ℕ, ◌<◌, ◌≤◌, List, [], ◌∷◌, map, length, get_or, refl, sym, ◌∙◌, ap, subst, subst₂, arith}
use Rattle.std.specs.Prelude.{◌≢◌, All, Contains}
use Rattle.std.proofs.lemmas.List.Elements.{All-head, All-tail, All-weaker}
use Rattle.ab_term.specs.Types.{Ty}
use Rattle.ab_term.specs.Typing.{HasType}
use Rattle.ab_term.specs.Variables.{variables, one_by_one}
use Rattle.ab_term.specs.Sameness.{same_number}
use Rattle.ab_types.specs.Entries.{Table, signature}
use Rattle.ab_types.specs.Ids.{HoldsType, type_of}
use Rattle.ab_store.specs.declared.node.TermId.{TermId}
use Rattle.ab_store.specs.declared.node.CellId.{CellId}
use Rattle.ab_store.specs.declared.node.Node.{Node}
use Rattle.ab_store.specs.declared.node.CellEntry.{CellEntry}
use Rattle.ab_store.specs.declared.node.Binding.{Binding}
use Rattle.ab_term.specs.Terms.{Read}
use Rattle.ab_store.specs.Trees.{Contents, cell_of, tree_of, terms_from}
use Rattle.ab_store.specs.Reading.{pairs, reading}
use Rattle.ab_store.specs.Bindings.{cells_of, StandsIn, AreInOrder}
use Rattle.ab_store.specs.Naming.{NodeIsTyped, NodesNameEarlier, BindingIsTyped, IsTypedBy, IsTerm}
use Rattle.ab_store.proofs.Nodes.{none}
use Rattle.ab_store.proofs.Putting.{pair}
use Rattle.ab_store.proofs.Fronts.{Front, All-front, AllPairs-front}

-- ids below n and cells below m stand for the same
pub record Agree (old new : Contents) (n m : ℕ) : Type 0 where
  pub trees : (types : Table) (t : TermId) → t.0 < n → tree_of types new t ≡ tree_of types old t
  pub cells : (c : CellId) → c.0 < m → cell_of new c ≡ cell_of old c

-- the binding is of such a cell to such an id
abbrev pub Within : ℕ → ℕ → Binding → Type 0
Within n m b = (b.cell.0 < m) × (b.term.0 < n)

pub within : (store : Contents) → AreInOrder store → All (Within (length store.nodes) (length store.cells)) store.bindings
within store order = order.held

module _ (old new : Contents) (n m : ℕ) (agree : Agree old new n m) where
  pub same_pairs : (types : Table) (bs : List Binding) → All (Within n m) bs → map (pair types new) bs ≡ map (pair types old) bs
  same_pairs types [] all = refl
  same_pairs types (b ∷ bs) all =
      let here = All-head (Within n m) b bs all in
      ap (λ e. (record { name = b.cell.0; type = type_of types e.ty }, tree_of types new b.term) ∷ map (pair types new) bs) (agree.cells b.cell here.0)
      ∙ ap (λ t. (record { name = b.cell.0; type = type_of types (cell_of old b.cell).ty }, t) ∷ map (pair types new) bs) (agree.trees types b.term here.1)
      ∙ ap (λ l. pair types old b ∷ l) (same_pairs types bs (All-tail (Within n m) b bs all))

  pub same_reading : new.bindings ≡ old.bindings → All (Within n m) old.bindings → (types : Table) (t : TermId) → t.0 < n → reading types new t ≡ reading types old t
  same_reading e all types t h =
      ap (λ l. one_by_one same_number (map (pair types new) l) (tree_of types new t)) e
      ∙ ap (λ l. one_by_one same_number l (tree_of types new t)) (same_pairs types old.bindings all)
      ∙ ap (one_by_one same_number (pairs types old)) (agree.trees types t h)

  pub same_cells : (t : TermId) → t.0 < n → cells_of new t ≡ cells_of old t
  same_cells t h = ap (λ (r : Read). map (λ x. record { 0 = x.name }) (variables r)) (agree.trees [] t h)

  apart : (c : CellId) (t : TermId) → t.0 < n → (StandsIn old c t → ⊥) → StandsIn new c t → ⊥
  apart c t h missing there = missing (subst (λ l. Contains l c) (same_cells t h) there)

  pub order_kept : n ≤ length new.nodes → m ≤ length new.cells → Front new.bindings old.bindings → All (Within n m) new.bindings → AreInOrder old → AreInOrder new
  order_kept nodes cells front all order = record {
    held = λ i d l. let here = all i d l in (omega (arith, here.0, cells), omega (arith, here.1, nodes));
    once = AllPairs-front (λ (a b : Binding). a.cell ≢ b.cell) new.bindings old.bindings front order.once;
    apart = λ i d l.
        let b = get_or new.bindings i d in
        apart b.cell b.term (all i d l).1 (All-front (λ (b : Binding). StandsIn old b.cell b.term → ⊥) new.bindings old.bindings front order.apart i d l);
    later = λ i j d l h.
        let a = get_or new.bindings i d in
        let b = get_or new.bindings j d in
        apart a.cell b.term (all j d h).1 (AllPairs-front (λ (a b : Binding). StandsIn old a.cell b.term → ⊥) new.bindings old.bindings front order.later i j d l h);
  }

  pub term_kept : n ≤ length new.nodes → (types : Table) (G : List Ty) (t : TermId) (A : Ty) → t.0 < n → IsTerm types old G t A → IsTerm types new G t A
  term_kept nodes types G t A h is = (omega (arith, h, nodes), subst (λ r. HasType (signature types) G r A) (sym (agree.trees types t h)) is.1)

  binding_kept : n ≤ length new.nodes → m ≤ length new.cells → (types : Table) (b : Binding) → Within n m b → BindingIsTyped types old b → BindingIsTyped types new b
  binding_kept nodes cells types b h typed = (
    omega (arith, h.0, cells),
    subst (λ (e : CellEntry). IsTerm types new [] b.term (type_of types e.ty)) (sym (agree.cells b.cell h.0)) (term_kept nodes types [] b.term (type_of types (cell_of old b.cell).ty) h.1 typed.1),
  )

  pub bindings_typed : n ≤ length new.nodes → m ≤ length new.cells → Front new.bindings old.bindings → All (Within n m) new.bindings → (types : Table) → All (BindingIsTyped types old) old.bindings → All (BindingIsTyped types new) new.bindings
  bindings_typed nodes cells front all types typed i d l =
      binding_kept nodes cells types (get_or new.bindings i d) (all i d l) (All-front (BindingIsTyped types old) new.bindings old.bindings front typed i d l)

-- stores with the same nodes and cells
pub alike : (old new : Contents) (n m : ℕ) → new.nodes ≡ old.nodes → new.cells ≡ old.cells → Agree old new n m
alike old new n m nodes cells = record {
  trees = λ types t h. ap (λ l. get_or (terms_from types new.cells [] l) t.0 none) nodes ∙ ap (λ l. get_or (terms_from types l [] old.nodes) t.0 none) cells;
  cells = λ c h. ap (λ l. get_or l c.0 (record { hint = []; ty = record { 0 = 0 } })) cells;
}

module _ (old new : Contents) (nodes : new.nodes ≡ old.nodes) (cells : new.cells ≡ old.cells) where
  count : length old.nodes ≤ length new.nodes
  count = omega (arith, ap length nodes)

  count_cells : length old.cells ≤ length new.cells
  count_cells = omega (arith, ap length cells)

  -- with the first of the bindings
  pub typed_alike : Front new.bindings old.bindings → (types : Table) → IsTypedBy types old → IsTypedBy types new
  typed_alike front types typed =
      let bound : All (Within (length old.nodes) (length old.cells)) old.bindings = All-weaker (BindingIsTyped types old) (Within (length old.nodes) (length old.cells)) (λ b h. (h.0, h.1.0)) old.bindings typed.bindings in
      record {
        earlier = subst₂ (λ (k : ℕ) (l : List Node). NodesNameEarlier k l) (ap length (sym cells)) (sym nodes) typed.earlier;
        nodes = subst (All (NodeIsTyped types)) (sym nodes) typed.nodes;
        cells = subst (All (λ (c : CellEntry). HoldsType types c.ty)) (sym cells) typed.cells;
        bindings = bindings_typed old new (length old.nodes) (length old.cells) (alike old new (length old.nodes) (length old.cells) nodes cells) count count_cells front
            (All-front (Within (length old.nodes) (length old.cells)) new.bindings old.bindings front bound) types typed.bindings;
      }

  pub term_alike : (types : Table) (G : List Ty) (t : TermId) (A : Ty) → IsTerm types old G t A → IsTerm types new G t A
  term_alike types G t A is = term_kept old new (length old.nodes) (length old.cells) (alike old new (length old.nodes) (length old.cells) nodes cells) count types G t A is.0 is

  pub reading_alike : new.bindings ≡ old.bindings → (types : Table) (t : TermId) → reading types new t ≡ reading types old t
  reading_alike e types t =
      ap (λ l. one_by_one same_number (pairs types (record { nodes = l; cells = new.cells; bindings = new.bindings; room = new.room })) (get_or (terms_from types new.cells [] l) t.0 none)) nodes
      ∙ ap (λ l. one_by_one same_number (pairs types (record { nodes = old.nodes; cells = l; bindings = new.bindings; room = new.room })) (get_or (terms_from types l [] old.nodes) t.0 none)) cells
      ∙ ap (λ l. one_by_one same_number (pairs types (record { nodes = old.nodes; cells = old.cells; bindings = l; room = new.room })) (tree_of types old t)) e

  pub order_alike : Front new.bindings old.bindings → AreInOrder old → AreInOrder new
  order_alike front order =
      order_kept old new (length old.nodes) (length old.cells) (alike old new (length old.nodes) (length old.cells) nodes cells) count count_cells front
      (All-front (Within (length old.nodes) (length old.cells)) new.bindings old.bindings front (within old order)) order
