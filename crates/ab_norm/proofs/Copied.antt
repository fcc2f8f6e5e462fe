-- Terms that are carried over into another store, part by part, and bindings, one after another.
use Rattle.std.proofs.Common.{◌≡◌, ◌≢◌, ◌⊎◌, inl, inr, ℕ, zero, suc, ◌+◌, ◌<◌, List, [], ◌∷◌, ◌++◌, map, take, length, get_or, None, Some, sym, ◌∙◌, ap, subst, arith}
use Rattle.std.specs.Prelude.{All, AllPairs, Contains}
use Rattle.std.proofs.lemmas.List.{map_more, map-append, take_more, get_or-map, length-map}
use Rattle.std.specs.List.{take-map}
use Rattle.std.proofs.lemmas.List.Elements.{All-nil, All-cons, All-weaker, All-map}
use Rattle.ab_term.specs.Terms.{lam, spine, terms_of}
use Rattle.ab_term.specs.Typing.{HasType}
use Rattle.ab_term.specs.Sameness.{same_number}
use Rattle.ab_term.specs.Variables.{one_by_one}
use Rattle.ab_term.proofs.Lists.{AllPairs-parts}
use Rattle.ab_store.specs.ab_types.specs.Entries.{Table, signature}
use Rattle.ab_store.specs.ab_types.specs.Ids.{type_of}
use Rattle.ab_store.specs.ab_types.specs.declared.ids.TypeId.{TypeId}
use Rattle.ab_store.specs.declared.node.TermId.{TermId}
use Rattle.ab_store.specs.declared.node.Head.{Head}
use Rattle.ab_store.specs.declared.node.Node.{Node}
use Rattle.ab_store.specs.declared.node.Node.TheVariants.{Lam, Spine}
use Rattle.ab_store.specs.declared.node.Binding.{Binding}
use Rattle.ab_store.specs.declared.node.CellEntry.{CellEntry}
use Rattle.ab_store.specs.Trees.{Contents, Holds, cell_in, cell_of, head_in, term_at, terms_from, tree_of, node_tree}
use Rattle.ab_store.specs.Reading.{pairs, reading, cell_variable}
use Rattle.ab_store.specs.Bindings.{IsUnbound, IsResolved, StandsIn, AreInOrder}
use Rattle.ab_store.specs.Growth.{IsExtendedBy}
use Rattle.ab_store.specs.Naming.{IsTypedBy, IsTerm}
use Rattle.ab_store.proofs.Cells.{numbers, stands, numbered}
use Rattle.ab_store.proofs.Putting.{Pair, pair}
use Rattle.ab_norm.specs.declared.memo.Memo.{Memo}
use Rattle.ab_norm.specs.WalkMemory.{answer_of}
use Rattle.ab_norm.specs.OtherStores.{Carries, HasSameBindings}
use Rattle.ab_norm.proofs.Clear.{resolved_by}
use Rattle.ab_norm.proofs.Frame.{still_read_before}
use Rattle.ab_norm.proofs.PutIn.{pairs_on}
use Rattle.ab_norm.proofs.Resolved.{none_bound, all_from_map}

abbrev Same : ℕ → ℕ → Type 0
Same i j = i ≡ j

module _ (types : Table) (s : Contents) where
  pub carries_none : (a : Contents) (m : Memo) → ((t : TermId) (k : ℕ) → answer_of m t k ≡ None) → Carries types s a m
  carries_none a m none t r e = absurd (cc (sym (none t 0) ∙ e))

  -- in a store that has grown
  pub carries_on : (a b : Contents) → IsExtendedBy a b → (m : Memo) → Carries types s a m → Carries types s b m
  carries_on a b more m known t r e =
      let was = known t r e in
      (more.ids r was.0, more.trees types r was.0 ∙ was.1)

  -- one answer more
  pub carries_more : (a : Contents) (old new : Memo) (id made : TermId) → Carries types s a old → Holds a made → tree_of types a made ≡ tree_of types s id
      → ((t : TermId) (k : ℕ) → (answer_of new t k ≡ answer_of old t k) ⊎ ((t ≡ id) × (k ≡ 0) × (answer_of new t k ≡ Some made)))
      → Carries types s a new
  carries_more a old new id made known held reads keeps t r e = go (keeps t 0)
    where
      go : (answer_of new t 0 ≡ answer_of old t 0) ⊎ ((t ≡ id) × Same 0 0 × (answer_of new t 0 ≡ Some made)) → Holds a r × (tree_of types a r ≡ tree_of types s t)
      go (inl same) = known t r (sym same ∙ e)
      go (inr one) =
          let is : made ≡ r = cc (sym one.2 ∙ e) in
          (subst (Holds a) is held, ap (tree_of types a) (sym is) ∙ reads ∙ ap (tree_of types s) (sym one.0))

  -- a node from its parts
  pub carried_lam : (a b : Contents) (id inner r body : TermId) (n : Node) (ty : TypeId) (x : List ℕ) → tree_of types s id ≡ node_tree types s n → n ≡ Lam ty x body
      → tree_of types a inner ≡ tree_of types s body → tree_of types b r ≡ lam (type_of types ty) x (tree_of types a inner) → tree_of types b r ≡ tree_of types s id
  carried_lam a b id inner r body n ty x reads is carried made =
      made ∙ ap (lam (type_of types ty) x) carried ∙ sym (reads ∙ ap (node_tree types s) is)

  pub carried_spine : (a b : Contents) (id r : TermId) (n : Node) (h : Head) (ts passed given : List TermId) → tree_of types s id ≡ node_tree types s n → n ≡ Spine h ts
      → a.cells ≡ s.cells → passed ≡ ts → map (tree_of types a) given ≡ map (tree_of types s) passed
      → tree_of types b r ≡ spine (head_in types a.cells h) (terms_of (map (tree_of types a) given)) → tree_of types b r ≡ tree_of types s id
  carried_spine a b id r n h ts passed given reads is cells same carried made =
      made
      ∙ ap (λ cs. spine (head_in types cs h) (terms_of (map (tree_of types a) given))) cells
      ∙ ap (λ l. spine (head_in types s.cells h) (terms_of l)) (carried ∙ ap (map (tree_of types s)) same)
      ∙ sym (reads ∙ ap (node_tree types s) is)

  -- one more of a list
  pub carried_more : (a b : Contents) (ts done more : List TermId) (i : ℕ) (d r : TermId) → IsExtendedBy a b → All (Holds a) done
      → map (tree_of types a) done ≡ map (tree_of types s) (take i ts) → tree_of types b r ≡ tree_of types s (get_or ts i d) → i < length ts → more ≡ done ++ r ∷ []
      → map (tree_of types b) more ≡ map (tree_of types s) (take (i + 1) ts)
  carried_more a b ts done more i d r grown held before here l push =
      ap (map (tree_of types b)) push
      ∙ map-append (tree_of types b) done (r ∷ [])
      ∙ ap (λ l. l ++ tree_of types b r ∷ []) (still_read_before types a b done grown held ∙ before)
      ∙ ap (λ x. map (tree_of types s) (take i ts) ++ x ∷ []) here
      ∙ sym (map_more (tree_of types s) ts i d l)

-- bindings that are carried over

before : {X : Type 0} (R : X → X → Type 0) (xs : List X) (i : ℕ) (d : X) → i < length xs → AllPairs R xs → All (λ x. R x (get_or xs i d)) (take i xs)
before R [] i d l all = absurd (omega arith)
before R (x ∷ xs) zero d l all = All-nil (λ y. R y x)
before R (x ∷ xs) (suc i) d l all =
    let parts = AllPairs-parts R x xs all in
    All-cons (λ y. R y (get_or xs i d)) x (take i xs) (parts.0 i d (omega arith)) (before R xs i d (omega arith) parts.1)

-- the bindings of s up to the place i are carried over into a
module _ (types : Table) (s a : Contents) (i : ℕ) (d : Binding) (within : i < length s.bindings) (order : AreInOrder s) (cells : a.cells ≡ s.cells) (done : pairs types a ≡ take i (pairs types s)) where
  abbrev here : Binding
  here = get_or s.bindings i d

  -- what holds of the numbers of the cells of the first bindings
  first_are : (P : ℕ → Type 0) → All (λ (b : Binding). P b.cell.0) (take i s.bindings) → All (λ (b : Binding). P b.cell.0) a.bindings
  first_are P all =
      all_from_map (pair types a) (λ (p : Pair). P p.0.name) a.bindings
      (subst (All (λ (p : Pair). P p.0.name)) (sym (done ∙ take-map (pair types s) i s.bindings)) (All-map (λ (p : Pair). P p.0.name) (pair types s) (take i s.bindings) all))

  pub next_unbound : IsUnbound a here.cell
  next_unbound =
      none_bound a.bindings here.cell.0
      (first_are (λ n. n ≢ here.cell.0)
      (All-weaker (λ (b : Binding). b.cell ≢ here.cell) (λ (b : Binding). b.cell.0 ≢ here.cell.0) (λ b apart same. apart (ap (λ n. record { 0 = n }) same)) (take i s.bindings) (before (λ (x y : Binding). x.cell ≢ y.cell) s.bindings i d within order.once)))

  module _ (term : TermId) (held : Holds a term) (same : tree_of types a term ≡ tree_of types s here.term) where
    pub next_apart : StandsIn a here.cell term → ⊥
    next_apart there = order.apart i d within (stands types s here.cell here.term (subst (λ t. Contains (numbers t) here.cell.0) same (numbered types a here.cell term there)))

    pub next_resolved : IsResolved a term
    next_resolved =
        resolved_by types a term (λ n there.
        none_bound a.bindings n
        (first_are (λ m. m ≢ n)
        (All-weaker (λ (b : Binding). StandsIn s b.cell here.term → ⊥) (λ (b : Binding). b.cell.0 ≢ n)
        (λ b apart is. apart (stands types s b.cell here.term (subst (λ t. Contains (numbers t) b.cell.0) same (subst (Contains (numbers (tree_of types a term))) (sym is) there))))
        (take i s.bindings) (before (λ (x y : Binding). StandsIn s x.cell y.term → ⊥) s.bindings i d within order.later))))

    pub next_typed : IsTypedBy types s → IsTerm types a [] term (type_of types (cell_of a here.cell).ty)
    next_typed typed =
        let own = typed.bindings i d within in
        (held, subst (λ cs. HasType (signature types) [] (tree_of types a term) (type_of types (cell_in cs here.cell).ty)) (sym cells) (subst (λ t. HasType (signature types) [] t (type_of types (cell_of s here.cell).ty)) (sym same) own.1.1))

    -- once the cell is bound
    module _ (b : Contents) (nodes : b.nodes ≡ a.nodes) (still : b.cells ≡ a.cells) (bound : b.bindings ≡ a.bindings ++ record { cell = here.cell; term = term } ∷ []) where
      tree_still : (t : TermId) → tree_of types b t ≡ tree_of types a t
      tree_still t = ap (λ ns. term_at types (terms_from types b.cells [] ns) t) nodes ∙ ap (λ cs. term_at types (terms_from types cs [] a.nodes) t) still

      abbrev pairs_in : List CellEntry → List Node → List Binding → List Pair
      pairs_in cs ns bs = map (λ (c : Binding). (record { name = c.cell.0; type = type_of types (cell_in cs c.cell).ty }, term_at types (terms_from types cs [] ns) c.term)) bs

      pub next_pairs : pairs types b ≡ take (i + 1) (pairs types s)
      next_pairs =
          let now : Binding = record { cell = here.cell; term = term } in
          let all : i < length (pairs types s) = omega (arith, length-map s.bindings (pair types s)) in
          let is : pair types a now ≡ get_or (pairs types s) i (pair types s d) =
          ap (λ cs. (record { name = here.cell.0; type = type_of types (cell_in cs here.cell).ty }, tree_of types a term)) cells
          ∙ ap (λ t. (cell_variable types s here.cell, t)) same
          ∙ sym (get_or-map (pair types s) s.bindings i d (pair types s d) within) in
          ap (pairs_in b.cells b.nodes) bound
          ∙ ap (λ ns. pairs_in b.cells ns (a.bindings ++ now ∷ [])) nodes
          ∙ ap (λ cs. pairs_in cs a.nodes (a.bindings ++ now ∷ [])) still
          ∙ map-append (pair types a) a.bindings (now ∷ [])
          ∙ ap (λ l. l ++ pair types a now ∷ []) done
          ∙ ap (λ p. take i (pairs types s) ++ p ∷ []) is
          ∙ sym (take_more (pairs types s) i (pair types s d) all)

      pub next_carries : (m : Memo) → Carries types s a m → Carries types s b m
      next_carries m known t r e =
          let was = known t r e in
          (subst (λ (ns : List Node). r.0 < length ns) (sym nodes) was.0, tree_still r ∙ was.1)

-- what is read where the bindings are the same
pub carried_reads : (types : Table) (s a b : Contents) (id here : TermId) → HasSameBindings types s a → IsTypedBy types a → IsExtendedBy a b
    → tree_of types b here ≡ tree_of types s id → reading types b here ≡ reading types s id
carried_reads types s a b id here same typed more carried =
    ap (λ ps. one_by_one same_number ps (tree_of types b here)) (pairs_on types a b typed more ∙ same.pairs)
    ∙ ap (one_by_one same_number (pairs types s)) carried

pub same_still : (types : Table) (s a b : Contents) → HasSameBindings types s a → IsTypedBy types a → IsExtendedBy a b → b.cells ≡ a.cells → HasSameBindings types s b
same_still types s a b same typed more cells = record { cells = cells ∙ same.cells; pairs = pairs_on types a b typed more ∙ same.pairs }
