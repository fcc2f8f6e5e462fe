-- What putting the bindings in makes of a tree.
use Rattle.std.proofs.Common.{◌≡◌, ℕ, zero, suc, ◌<◌, ◌≤◌, List, [], ◌∷◌, ◌++◌, map, length, get_or, Bool, true, false, cond, Option, Some, None, option_map, refl, sym, ◌∙◌, ap, subst, arith, length-append, append_assoc, ◌&&◌}
use Rattle.std.specs.Prelude.{All, Contains, ◌==◌}
use Rattle.std.specs.Cmp.{unsigned_Decides}
use Rattle.std.proofs.lemmas.List.{map-append, get_or_at, get_or_append_left}
use Rattle.std.proofs.lemmas.List.Elements.{All-head, All-tail, All-map, All-weaker, All-contains}
use Rattle.ab_term.specs.Types.{Ty, kind, same_type}
use Rattle.ab_term.specs.Terms.{Variable, term, terms_of, Read}
use Rattle.ab_term.specs.Typing.{HasType, TakeType, typed_spine, take_term}
use Rattle.ab_term.specs.Reach.{reach}
use Rattle.ab_term.specs.Sameness.{same_number}
use Rattle.ab_term.specs.Variables.{variables, put_at, image_by, image_all_by, image, value_in, one_by_one, at_once, IsTyped}
use Rattle.ab_term.proofs.Comparisons.{same_type-Decides}
use Rattle.ab_term.proofs.Lists.{Contains-map}
use Rattle.ab_term.proofs.Depends.{image_agrees, image_unmoved}
use Rattle.ab_term.proofs.InOrder.{one_by_one-append, one_by_one-lam, one_by_one-at_once, one_by_one_typed}
use Rattle.ab_term.proofs.ClosedMaps.{image_reach}
use Rattle.ab_types.specs.Entries.{Table, signature}
use Rattle.ab_types.specs.Ids.{type_of}
use Rattle.ab_store.specs.declared.node.TermId.{TermId}
use Rattle.ab_store.specs.declared.node.CellId.{CellId}
use Rattle.ab_store.specs.declared.node.Head.{Head}
use Rattle.ab_store.specs.declared.node.Node.{Node}
use Rattle.ab_store.specs.declared.node.Node.TheVariants.{Lam, Spine}
use Rattle.ab_store.specs.declared.node.Binding.{Binding}
use Rattle.ab_store.specs.Trees.{Contents, cell_of, tree_of, head_reading, node_tree, trees}
use Rattle.ab_store.specs.Reading.{bound_in, binding_of, cell_variable, pairs, reading, value_of, given, node_reading}
use Rattle.ab_store.specs.Bindings.{cells_of, StandsIn, IsResolved, AreInOrder}
use Rattle.ab_store.specs.Naming.{BindingIsTyped, IsTypedBy}
use Rattle.ab_store.proofs.Cells.{numbers, IsCell, stands, node_has_cells, variables_are_cells}

abbrev pub Pair : Type 0
Pair = Variable ℕ × Read

-- a variable that doesn't stand in a term
pub unmoved : (p : Pair) (t : Read) → (Contains (numbers t) p.0.name → ⊥) → image same_number (p ∷ []) t ≡ t
unmoved p t apart = image_unmoved (value_in same_number (p ∷ [])) t (λ y m. go y m (p.0.name == y.name) refl)
  where
    go : (y : Variable ℕ) → Contains (variables t) y → (b : Bool) → (p.0.name == y.name) ≡ b → cond (b && same_type p.0.type y.type) (Some p.1) None ≡ None
    go y m true e = absurd (apart (subst (λ n. Contains (numbers t) n) (sym ((unsigned_Decides p.0.name y.name).0 e)) (Contains-map (λ (x : Variable ℕ). x.name) (variables t) y m)))
    go y m false e = refl

abbrev pub Missing : Read → Pair → Type 0
Missing t p = Contains (numbers t) p.0.name → ⊥

pub all_unmoved : (ps : List Pair) (t : Read) → All (Missing t) ps → one_by_one same_number ps t ≡ t
all_unmoved [] t apart = refl
all_unmoved (p ∷ ps) t apart =
    ap (one_by_one same_number ps) (unmoved p t (All-head (Missing t) p ps apart)) ∙ all_unmoved ps t (All-tail (Missing t) p ps apart)

-- what is put in has no free index
pub reach_put : (ps : List Pair) (t : Read) → All (λ p. reach p.1 ≤ 0) ps → reach (one_by_one same_number ps t) ≤ reach t
reach_put [] t closed = omega arith
reach_put (p ∷ ps) t closed =
    let small : reach p.1 ≤ 0 = All-head (λ (q : Pair). reach q.1 ≤ 0) p ps closed in
    omega (
      arith,
      image_reach (value_in same_number (p ∷ [])) (λ y u e. value y u (same y) e small) t,
      reach_put ps (image same_number (p ∷ []) t) (All-tail (λ (q : Pair). reach q.1 ≤ 0) p ps closed),
    )
  where
    same : Variable ℕ → Bool
    same y = (p.0.name == y.name) && same_type p.0.type y.type

    value : (y : Variable ℕ) (u : Read) (b : Bool) → cond b (Some p.1) None ≡ Some u → reach p.1 ≤ 0 → reach u ≤ 0
    value y u true e small = let one : p.1 ≡ u = cc in subst (λ v. reach v ≤ 0) one small
    value y u false e small = absurd (cc)

-- a cell of a binding is bound
pub is_bound : (bs : List Binding) (i : ℕ) (d : Binding) → i < length bs → bound_in bs (get_or bs i d).cell ≡ None → ⊥
is_bound [] i d l e = absurd (omega arith)
is_bound (b ∷ bs) zero d l e =
    let itself : (b.cell.0 == b.cell.0) ≡ true = (unsigned_Decides b.cell.0 b.cell.0).1 refl in
    let some : Some b.term ≡ None = sym (ap (λ k. cond k (Some b.term) (bound_in bs b.cell)) itself) ∙ e in
    absurd (cc)
is_bound (b ∷ bs) (suc i) d l e = go (is_bound bs i d (omega arith)) (b.cell.0 == (get_or bs i d).cell.0) e
  where
    go : (bound_in bs (get_or bs i d).cell ≡ None → ⊥) → (k : Bool) → cond k (Some b.term) (bound_in bs (get_or bs i d).cell) ≡ None → ⊥
    go rest true e = absurd (cc)
    go rest false e = rest e

module _ (types : Table) (store : Contents) where
  abbrev pub pair : Binding → Pair
  pair b = (cell_variable types store b.cell, tree_of types store b.term)

  abbrev Fits : Binding → Type 0
  Fits b = HasType (signature types) [] (tree_of types store b.term) (type_of types (cell_of store b.cell).ty)

  fit : IsTypedBy types store → All Fits store.bindings
  fit typed = All-weaker (BindingIsTyped types store) Fits (λ b h. h.1.1) store.bindings typed.bindings

  pub pairs_typed : IsTypedBy types store → IsTyped (signature types) (pairs types store)
  pairs_typed typed = All-map (λ (p : Pair). HasType (signature types) [] p.1 p.0.type) pair store.bindings (fit typed)

  pub read_typed : IsTypedBy types store → (G : List Ty) (t : TermId) (A : Ty) → HasType (signature types) G (tree_of types store t) A → HasType (signature types) G (reading types store t) A
  read_typed typed G t A d = one_by_one_typed (signature types) same_number (pairs types store) (pairs_typed typed) d

  -- no bound cell stands in the term
  pub resolved_reads : (t : TermId) → IsResolved store t → reading types store t ≡ tree_of types store t
  resolved_reads t resolved = all_unmoved (pairs types store) (tree_of types store t) (All-map (Missing (tree_of types store t)) pair store.bindings missing)
    where
      missing : All (λ b. Missing (tree_of types store t) (pair b)) store.bindings
      missing i d l m =
          let b = get_or store.bindings i d in
          let unbound : binding_of store b.cell ≡ None = All-contains (λ c. binding_of store c ≡ None) (cells_of store t) b.cell resolved (stands types store b.cell t m) in
          is_bound store.bindings i d l unbound

  module _ (typed : IsTypedBy types store) (order : AreInOrder store) where
    -- the term of a binding, read: only the bindings behind change it
    own : (before after : List Binding) (b : Binding) → store.bindings ≡ before ++ b ∷ after → reading types store b.term ≡ one_by_one same_number (map pair after) (tree_of types store b.term)
    own before after b e =
        let u = tree_of types store b.term in
        ap (λ l. one_by_one same_number (map pair l) u) e
        ∙ ap (λ l. one_by_one same_number l u) (map-append pair before (b ∷ after))
        ∙ one_by_one-append same_number (map pair before) (pair b ∷ map pair after) u
        ∙ ap (one_by_one same_number (pair b ∷ map pair after)) (all_unmoved (map pair before) u (All-map (Missing u) pair before earlier))
        ∙ ap (one_by_one same_number (map pair after)) (unmoved (pair b) u itself)
      where
        here : (d : Binding) → get_or store.bindings (length before) d ≡ b
        here d = ap (λ l. get_or l (length before) d) e ∙ get_or_at before b after d (length before) refl

        long : length before < length store.bindings
        long = omega (arith, ap length e, length-append before (b ∷ after))

        itself : Contains (numbers (tree_of types store b.term)) b.cell.0 → ⊥
        itself m = subst (λ (x : Binding). StandsIn store x.cell x.term → ⊥) (here b) (order.apart (length before) b long) (stands types store b.cell b.term m)

        earlier : All (λ x. Missing (tree_of types store b.term) (pair x)) before
        earlier i d l m =
            let x = get_or before i d in
            let there : get_or store.bindings i d ≡ x = ap (λ l. get_or l i d) e ∙ get_or_append_left before (b ∷ after) d i l in
            let apart = order.later i (length before) d l long in
            subst (λ (y : Binding). StandsIn store y.cell b.term → ⊥) there
            (subst (λ (y : Binding). StandsIn store (get_or store.bindings i d).cell y.term → ⊥) (here d) apart)
            (stands types store x.cell b.term m)

    -- all at once: what a cell stands for
    value_from : (before bs : List Binding) → store.bindings ≡ before ++ bs → All Fits bs → (c : CellId)
        → value_in same_number (at_once same_number (map pair bs)) (cell_variable types store c) ≡ option_map (reading types store) (bound_in bs c)
    value_from before [] e fits c = refl
    value_from before (b ∷ bs) e fits c = go (value_from (before ++ b ∷ []) bs (e ∙ sym (append_assoc before (b ∷ []) bs)) (All-tail Fits b bs fits) c) (b.cell.0 == c.0) refl
      where
        put : Read
        put = image same_number (at_once same_number (map pair bs)) (tree_of types store b.term)

        rest : Option Read
        rest = value_in same_number (at_once same_number (map pair bs)) (cell_variable types store c)

        types_same : Bool
        types_same = same_type (cell_variable types store b.cell).type (cell_variable types store c).type

        is : put ≡ reading types store b.term
        is =
            sym (one_by_one-at_once (signature types) same_number (map pair bs) (All-map (λ (p : Pair). HasType (signature types) [] p.1 p.0.type) pair bs (All-tail Fits b bs fits)) (All-head Fits b bs fits))
            ∙ sym (own before bs b e)

        go : rest ≡ option_map (reading types store) (bound_in bs c) → (k : Bool) → (b.cell.0 == c.0) ≡ k → cond (k && types_same) (Some put) rest ≡ option_map (reading types store) (cond k (Some b.term) (bound_in bs c))
        go ih true same =
            let id : ℕ → CellId = λ n. record { 0 = n } in
            let one : b.cell ≡ c = ap id ((unsigned_Decides b.cell.0 c.0).0 same) in
            let alike : types_same ≡ true = (same_type-Decides (cell_variable types store b.cell).type (cell_variable types store c).type).1 (ap (λ d. (cell_variable types store d).type) one) in
            ap (λ k. cond k (Some put) rest) alike ∙ ap Some is
        go ih false same = ih

    pub value_is : (c : CellId) → value_in same_number (at_once same_number (pairs types store)) (cell_variable types store c) ≡ option_map (reading types store) (binding_of store c)
    value_is c = value_from [] store.bindings refl (fit typed) c

    -- a typed tree over the store's cells, with the bindings put in, is its image
    pub put_is_image : (G : List Ty) (t : Read) (A : Ty) → All (IsCell types store.cells) (variables t) → HasType (signature types) G t A → one_by_one same_number (pairs types store) t ≡ image_by (value_of types store) t
    put_is_image G t A cells d =
        one_by_one-at_once (signature types) same_number (pairs types store) (pairs_typed typed) d
        ∙ image_agrees (value_in same_number (at_once same_number (pairs types store))) (value_of types store) t agrees
      where
        agrees : (y : Variable ℕ) → Contains (variables t) y → value_in same_number (at_once same_number (pairs types store)) y ≡ value_of types store y
        agrees y m =
            let same : y ≡ cell_variable types store (record { 0 = y.name }) = All-contains (IsCell types store.cells) (variables t) y cells m in
            ap (value_in same_number (at_once same_number (pairs types store))) same ∙ value_is (record { 0 = y.name })

    pub reads_as_image : (G : List Ty) (t : TermId) (A : Ty) → HasType (signature types) G (tree_of types store t) A → reading types store t ≡ image_by (value_of types store) (tree_of types store t)
    reads_as_image G t A d = put_is_image G (tree_of types store t) A (variables_are_cells types store t) d

    all_read : (G : List Ty) (ts : List TermId) (A B : Ty) → TakeType (signature types) G (terms_of (map (tree_of types store) ts)) A B
        → image_all_by (value_of types store) (terms_of (map (tree_of types store) ts)) ≡ terms_of (map (reading types store) ts)
    all_read G [] A B ds = refl
    all_read G (t ∷ ts) _ B (take_term {A = A} {B = C} d ds) =
        ap (λ r. term r (image_all_by (value_of types store) (terms_of (map (tree_of types store) ts)))) (sym (reads_as_image G t A d))
        ∙ ap (term (reading types store t)) (all_read G ts C B ds)

    spine_reads : (G : List Ty) (h : Head) (ts : List TermId) (A : Ty) → HasType (signature types) G (node_tree types store (Spine h ts)) A
        → image_by (value_of types store) (node_tree types store (Spine h ts)) ≡ given types store h ts
    spine_reads G h ts _ (typed_spine {A = B} {k = k} e ds) = ap (put_at (value_of types store) (head_reading types store h)) (all_read G ts B (kind k) ds)

    -- a node, with the bindings put in
    pub node_reads : (n : Node) (G : List Ty) (A : Ty) → HasType (signature types) G (node_tree types store n) A → one_by_one same_number (pairs types store) (node_tree types store n) ≡ node_reading types store n
    node_reads (Lam a x t) G A d = one_by_one-lam same_number (pairs types store) (type_of types a) x (tree_of types store t)
    node_reads (Spine h ts) G A d =
        put_is_image G (node_tree types store (Spine h ts)) A (node_has_cells types store.cells (trees types store) (Spine h ts) (λ i. variables_are_cells types store (record { 0 = i }))) d
        ∙ spine_reads G h ts A d
