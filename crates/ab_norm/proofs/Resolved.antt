-- Terms in which no bound cell stands: part by part, and what is read.
use Rattle.std.proofs.Common.{◌≡◌, ◌≢◌, ◌⊎◌, inl, inr, ◌↔◌, ℕ, ◌+◌, ◌<◌, List, [], ◌∷◌, ◌++◌, map, take, length, get_or, Bool, true, false, cond, ◌==◌, None, Some, refl, sym, ◌∙◌, ap, subst, arith}
use Rattle.std.specs.Prelude.{All, AllPairs, Contains}
use Rattle.std.proofs.lemmas.Bool.Decides.{Decides-eqb}
use Rattle.std.proofs.lemmas.List.{map-append, take_all, take_more}
use Rattle.std.proofs.lemmas.List.Elements.{All-nil, All-cons, All-head, All-tail, All-append, All-map, All-push, All-take, All-contains, All-weaker}
use Rattle.ab_term.specs.Terms.{Variable, terms_of, Read}
use Rattle.ab_term.specs.Sameness.{same_number}
use Rattle.ab_term.specs.Variables.{variables, variables_of_head, variables_of_all, value_in, image, one_by_one}
use Rattle.ab_term.proofs.Lists.{Contains-map, Contains-from_map, AllPairs-parts}
use Rattle.ab_term.proofs.Stands.{variables-image}
use Rattle.ab_term.proofs.Comparisons.{same_variable-itself}
use Rattle.ab_store.specs.ab_types.specs.Entries.{Table}
use Rattle.ab_store.specs.ab_types.specs.Ids.{type_of}
use Rattle.ab_store.specs.ab_types.specs.declared.ids.TypeId.{TypeId}
use Rattle.ab_store.specs.declared.node.TermId.{TermId}
use Rattle.ab_store.specs.declared.node.CellId.{CellId}
use Rattle.ab_store.specs.declared.node.CellEntry.{CellEntry}
use Rattle.ab_store.specs.declared.node.Head.{Head}
use Rattle.ab_store.specs.declared.node.Head.TheVariants.{Const, Logic, Nominal, Cell, Index}
use Rattle.ab_store.specs.declared.node.Node.{Node}
use Rattle.ab_store.specs.declared.node.Node.TheVariants.{Lam, Spine}
use Rattle.ab_store.specs.declared.node.Binding.{Binding}
use Rattle.ab_store.specs.Trees.{Contents, Holds, HoldsCell, cell_in, head_in, tree_of, node_tree}
use Rattle.ab_store.specs.Reading.{bound_in, cell_variable, pairs, reading}
use Rattle.ab_store.specs.Bindings.{IsUnbound, IsResolved, AreInOrder}
use Rattle.ab_store.specs.Growth.{IsExtendedBy}
use Rattle.ab_store.proofs.Cells.{numbers, IsCell, stands, variables_are_cells}
use Rattle.ab_store.proofs.Fronts.{AllPairs-front, front_take}
use Rattle.ab_store.proofs.Putting.{Pair, pair}
use Rattle.ab_norm.specs.declared.memo.Seen.{Seen}
use Rattle.ab_norm.specs.WalkMemory.{has_been}
use Rattle.ab_store.specs.Naming.{NodeNames}
use Rattle.ab_norm.specs.Heads.{IsFree, BeginsFree}
use Rattle.ab_norm.specs.ResolvedTerms.{AllResolved}
use Rattle.ab_norm.proofs.Clear.{resolved_by}
use Rattle.ab_norm.proofs.Gathered.{pairs_map}

-- part by part

abbrev cell : Variable ℕ → CellId
cell x = record { 0 = x.name }

all_front : {X : Type 0} (P : X → Type 0) (xs ys : List X) → All P (xs ++ ys) → All P xs
all_front P [] ys all = All-nil P
all_front P (x ∷ xs) ys all = All-cons P x xs (All-head P x (xs ++ ys) all) (all_front P xs ys (All-tail P x (xs ++ ys) all))

all_back : {X : Type 0} (P : X → Type 0) (xs ys : List X) → All P (xs ++ ys) → All P ys
all_back P [] ys all = all
all_back P (x ∷ xs) ys all = all_back P xs ys (All-tail P x (xs ++ ys) all)

module _ (s : Contents) where
  pub resolved_lam : (id : TermId) (n : Node) (a : TypeId) (x : List ℕ) (body : TermId) → ((types : Table) → tree_of types s id ≡ node_tree types s n) → n ≡ Lam a x body
      → (r : Bool) → (r ≡ true) ↔ IsResolved s body → (r ≡ true) ↔ IsResolved s id
  resolved_lam id n a x body reads is r known =
      let e = reads [] ∙ ap (node_tree [] s) is in
      (λ yes. subst (λ t. All (IsUnbound s) (map cell (variables t))) (sym e) (known.0 yes), λ clear. known.1 (subst (λ t. All (IsUnbound s) (map cell (variables t))) e clear))

  heads_clear : (h : Head) → IsFree s h → All (IsUnbound s) (map cell (variables_of_head (head_in [] s.cells h)))
  heads_clear (Const c) free = All-nil (IsUnbound s)
  heads_clear (Logic l) free = All-nil (IsUnbound s)
  heads_clear (Nominal n a) free = All-nil (IsUnbound s)
  heads_clear (Index i) free = All-nil (IsUnbound s)
  heads_clear (Cell c) free = All-cons (IsUnbound s) c [] free (All-nil (IsUnbound s))

  clear_heads : (h : Head) → All (IsUnbound s) (map cell (variables_of_head (head_in [] s.cells h))) → IsFree s h
  clear_heads (Const c) all = tt
  clear_heads (Logic l) all = tt
  clear_heads (Nominal n a) all = tt
  clear_heads (Index i) all = tt
  clear_heads (Cell c) all = All-head (IsUnbound s) c [] all

  args_clear : (ts : List TermId) → All (IsResolved s) ts → All (IsUnbound s) (map cell (variables_of_all (terms_of (map (tree_of [] s) ts))))
  args_clear [] all = All-nil (IsUnbound s)
  args_clear (t ∷ ts) all =
      subst (All (IsUnbound s)) (sym (map-append cell (variables (tree_of [] s t)) (variables_of_all (terms_of (map (tree_of [] s) ts)))))
      (All-append (IsUnbound s) _ _ (All-head (IsResolved s) t ts all) (args_clear ts (All-tail (IsResolved s) t ts all)))

  clear_args : (ts : List TermId) → All (IsUnbound s) (map cell (variables_of_all (terms_of (map (tree_of [] s) ts)))) → All (IsResolved s) ts
  clear_args [] all = All-nil (IsResolved s)
  clear_args (t ∷ ts) all =
      let both : All (IsUnbound s) (map cell (variables (tree_of [] s t)) ++ map cell (variables_of_all (terms_of (map (tree_of [] s) ts)))) = subst (All (IsUnbound s)) (map-append cell (variables (tree_of [] s t)) (variables_of_all (terms_of (map (tree_of [] s) ts)))) all in
      All-cons (IsResolved s) t ts (all_front (IsUnbound s) _ _ both) (clear_args ts (all_back (IsUnbound s) (map cell (variables (tree_of [] s t))) _ both))

  pub resolved_spine : (id : TermId) (n : Node) (h : Head) (ts : List TermId) → ((types : Table) → tree_of types s id ≡ node_tree types s n) → n ≡ Spine h ts
      → IsResolved s id ↔ (IsFree s h × All (IsResolved s) ts)
  resolved_spine id n h ts reads is =
      let e = reads [] ∙ ap (node_tree [] s) is in
      let at : List CellId → Type 0 = All (IsUnbound s) in
      let split = map-append cell (variables_of_head (head_in [] s.cells h)) (variables_of_all (terms_of (map (tree_of [] s) ts))) in (
        λ clear.
            let both : All (IsUnbound s) (map cell (variables_of_head (head_in [] s.cells h)) ++ map cell (variables_of_all (terms_of (map (tree_of [] s) ts)))) = subst at split (subst (λ t. at (map cell (variables t))) e clear) in
            (clear_heads h (all_front (IsUnbound s) _ _ both), clear_args ts (all_back (IsUnbound s) (map cell (variables_of_head (head_in [] s.cells h))) _ both)),
        λ parts. subst (λ t. at (map cell (variables t))) (sym e) (subst at (sym split) (All-append (IsUnbound s) _ _ (heads_clear h parts.0) (args_clear ts parts.1))),
      )

-- one term more is kept
pub all_resolved_more : (s : Contents) (old new : Seen) (id : TermId) → AllResolved s old → IsResolved s id → ((t : TermId) → (has_been new t ≡ has_been old t) ⊎ (t ≡ id)) → AllResolved s new
all_resolved_more s old new id known here keeps t e = go (keeps t)
  where
    go : (has_been new t ≡ has_been old t) ⊎ (t ≡ id) → IsResolved s t
    go (inl same) = known t (sym same ∙ e)
    go (inr one) = subst (IsResolved s) (sym one) here

-- no bound cell stands in what is read

abbrev pub Misses : Read → Pair → Type 0
Misses t p = Contains (numbers t) p.0.name → ⊥

abbrev name : Variable ℕ → ℕ
name x = x.name

-- what an image by one pair holds
only : (v : Read) (u : Read) (b : Bool) → cond b (Some v) None ≡ Some u → v ≡ u
only v u true e = cc
only v u false e = absurd (cc)

image_holds : (p : Pair) (t : Read) (y : Variable ℕ) → Contains (variables (image same_number (p ∷ []) t)) y
    → (Contains (variables t) y × (value_in same_number (p ∷ []) y ≡ None)) ⊎ Contains (variables p.1) y
image_holds p t y m = go (variables-image (value_in same_number (p ∷ [])) t y m)
  where
    go : (Contains (variables t) y × (value_in same_number (p ∷ []) y ≡ None)) ⊎ ((z : Variable ℕ) × (u : Read) × (Contains (variables t) z × (value_in same_number (p ∷ []) z ≡ Some u)) × Contains (variables u) y)
        → (Contains (variables t) y × (value_in same_number (p ∷ []) y ≡ None)) ⊎ Contains (variables p.1) y
    go (inl l) = inl l
    go (inr (z, u, put, m)) = inr (subst (λ w. Contains (variables w) y) (sym (only p.1 u _ put.1)) m)

module _ (types : Table) (C : List CellEntry) where
  abbrev AreCells : Read → Type 0
  AreCells t = (y : Variable ℕ) → Contains (variables t) y → IsCell types C y

  abbrev cell_at : ℕ → Variable ℕ
  cell_at n = record { name = n; type = type_of types (cell_in C (record { 0 = n })).ty }

  -- once a term is put in for a variable, the variable is gone
  gone : (p : Pair) (t : Read) → IsCell types C p.0 → AreCells t → Misses p.1 p → Misses (image same_number (p ∷ []) t) p
  gone p t is_cell cells apart m =
      let found = Contains-from_map name (variables (image same_number (p ∷ []) t)) p.0.name m in
      go found.0 found.2 (image_holds p t found.0 found.1)
    where
      go : (y : Variable ℕ) → y.name ≡ p.0.name → (Contains (variables t) y × (value_in same_number (p ∷ []) y ≡ None)) ⊎ Contains (variables p.1) y → ⊥
      go y e (inl (m, none)) =
          let same : y ≡ p.0 = cells y m ∙ ap cell_at e ∙ sym is_cell in
          let some : value_in same_number (p ∷ []) p.0 ≡ Some p.1 = ap (λ b. cond b (Some p.1) None) (same_variable-itself same_number p.0 ((Decides-eqb p.0.name p.0.name).1 refl)) in
          let both : Some p.1 ≡ None = sym some ∙ ap (value_in same_number (p ∷ [])) (sym same) ∙ none in
          absurd (cc)
      go y e (inr m) = apart (subst (Contains (numbers p.1)) e (Contains-map name (variables p.1) y m))

  kept : (p q : Pair) (t : Read) → Misses t q → Misses p.1 q → Misses (image same_number (p ∷ []) t) q
  kept p q t a b m =
      let found = Contains-from_map name (variables (image same_number (p ∷ []) t)) q.0.name m in
      go found.0 found.2 (image_holds p t found.0 found.1)
    where
      go : (y : Variable ℕ) → y.name ≡ q.0.name → (Contains (variables t) y × (value_in same_number (p ∷ []) y ≡ None)) ⊎ Contains (variables p.1) y → ⊥
      go y e (inl (m, none)) = a (subst (Contains (numbers t)) e (Contains-map name (variables t) y m))
      go y e (inr m) = b (subst (Contains (numbers p.1)) e (Contains-map name (variables p.1) y m))

  cells_kept : (p : Pair) (t : Read) → AreCells t → AreCells p.1 → AreCells (image same_number (p ∷ []) t)
  cells_kept p t a b y m = go (image_holds p t y m)
    where
      go : (Contains (variables t) y × (value_in same_number (p ∷ []) y ≡ None)) ⊎ Contains (variables p.1) y → IsCell types C y
      go (inl (m, none)) = a y m
      go (inr m) = b y m

  still_missing : (ps : List Pair) (q : Pair) (t : Read) → Misses t q → All (λ p. Misses p.1 q) ps → Misses (one_by_one same_number ps t) q
  still_missing [] q t a all = a
  still_missing (p ∷ ps) q t a all =
      still_missing ps q (image same_number (p ∷ []) t) (kept p q t a (All-head (λ p. Misses p.1 q) p ps all)) (All-tail (λ p. Misses p.1 q) p ps all)

  all_gone : (ps : List Pair) (t : Read) → All (λ p. IsCell types C p.0) ps → All (λ p. AreCells p.1) ps → All (λ p. Misses p.1 p) ps → AllPairs (λ p q. Misses q.1 p) ps → AreCells t
      → All (Misses (one_by_one same_number ps t)) ps
  all_gone [] t c v a l cells = All-nil (Misses t)
  all_gone (p ∷ ps) t c v a l cells =
      let next = image same_number (p ∷ []) t in
      let parts = AllPairs-parts (λ p q. Misses q.1 p) p ps l in
      All-cons (Misses (one_by_one same_number ps next)) p ps
      (still_missing ps p next (gone p t (All-head (λ p. IsCell types C p.0) p ps c) cells (All-head (λ p. Misses p.1 p) p ps a)) parts.0)
      (all_gone ps next (All-tail (λ p. IsCell types C p.0) p ps c) (All-tail (λ p. AreCells p.1) p ps v) (All-tail (λ p. Misses p.1 p) p ps a) parts.1
      (cells_kept p t cells (All-head (λ p. AreCells p.1) p ps v)))

pub none_bound : (bs : List Binding) (n : ℕ) → All (λ b. b.cell.0 ≢ n) bs → bound_in bs (record { 0 = n }) ≡ None
none_bound [] n all = refl
none_bound (b ∷ bs) n all = go (none_bound bs n (All-tail (λ (c : Binding). c.cell.0 ≢ n) b bs all)) (b.cell.0 == n) refl
  where
    go : bound_in bs (record { 0 = n }) ≡ None → (t : Bool) → (b.cell.0 == n) ≡ t → bound_in (b ∷ bs) (record { 0 = n }) ≡ None
    go rest true e = absurd (All-head (λ (c : Binding). c.cell.0 ≢ n) b bs all ((Decides-eqb b.cell.0 n).0 e))
    go rest false e = ap (λ t. cond t (Some b.term) (bound_in bs (record { 0 = n }))) e ∙ rest

pub all_from_map : {X Y : Type 0} (f : X → Y) (P : Y → Type 0) (xs : List X) → All P (map f xs) → All (λ x. P (f x)) xs
all_from_map f P [] all = All-nil (λ x. P (f x))
all_from_map f P (x ∷ xs) all = All-cons (λ x. P (f x)) x xs (All-head P (f x) (map f xs) all) (all_from_map f P xs (All-tail P (f x) (map f xs) all))

-- the first pairs, put in one after another
pub first_gone : (types : Table) (s : Contents) (k : ℕ) (id : TermId) → AreInOrder s
    → All (Misses (one_by_one same_number (take k (pairs types s)) (tree_of types s id))) (take k (pairs types s))
first_gone types s k id order =
    let ps = pairs types s in
    let cells : (t : TermId) → AreCells types s.cells (tree_of types s t) = λ t y m. All-contains (IsCell types s.cells) (variables (tree_of types s t)) y (variables_are_cells types s t) m in
    all_gone types s.cells (take k ps) (tree_of types s id)
    (All-take (λ (p : Pair). IsCell types s.cells p.0) k ps (All-map (λ (p : Pair). IsCell types s.cells p.0) (pair types s) s.bindings (λ i d l. refl)))
    (All-take (λ (p : Pair). AreCells types s.cells p.1) k ps (All-map (λ (p : Pair). AreCells types s.cells p.1) (pair types s) s.bindings (λ i d l. cells (get_or s.bindings i d).term)))
    (All-take (λ (p : Pair). Misses p.1 p) k ps (All-map (λ (p : Pair). Misses p.1 p) (pair types s) s.bindings (λ i d l m. order.apart i d l (stands types s (get_or s.bindings i d).cell (get_or s.bindings i d).term m))))
    (AllPairs-front (λ (p q : Pair). Misses q.1 p) (take k ps) ps (front_take k (take k ps) ps refl)
    (pairs_map (pair types s) (λ (p q : Pair). Misses q.1 p) s.bindings (λ i j d l m c. order.later i j d l m (stands types s (get_or s.bindings i d).cell (get_or s.bindings j d).term c))))
    (cells id)

pub reading_clear : (types : Table) (s0 s1 : Contents) (id r : TermId) → s1.bindings ≡ s0.bindings → AreInOrder s0 → tree_of types s1 r ≡ reading types s0 id → IsResolved s1 r
reading_clear types s0 s1 id r same order e =
    let ps = pairs types s0 in
    let misses : All (Misses (reading types s0 id)) ps =
    subst (λ (qs : List Pair). All (Misses (one_by_one same_number qs (tree_of types s0 id))) qs) (take_all (length ps) ps (omega arith)) (first_gone types s0 (length ps) id order) in
    resolved_by types s1 r (λ n m.
    ap (λ bs. bound_in bs (record { 0 = n })) same
    ∙ none_bound s0.bindings n
    (All-weaker (λ b. Misses (reading types s0 id) (pair types s0 b)) (λ (b : Binding). b.cell.0 ≢ n)
    (λ b miss is. miss (subst (Contains (numbers (reading types s0 id))) (sym is) (subst (λ t. Contains (numbers t) n) e m)))
    s0.bindings (all_from_map (pair types s0) (Misses (reading types s0 id)) s0.bindings misses)))

-- one binding after another

module _ (types : Table) (s0 s1 : Contents) (more : IsExtendedBy s0 s1) where
  pub pair_on : (b : Binding) → HoldsCell s0 b.cell → Holds s0 b.term → pair types s1 b ≡ pair types s0 b
  pair_on b hc ht =
      ap (λ (e : CellEntry). (record { name = b.cell.0; type = type_of types e.ty }, tree_of types s1 b.term)) (more.cells b.cell hc)
      ∙ ap (λ t. (cell_variable types s0 b.cell, t)) (more.trees types b.term ht)

-- one more of a list
pub one_more_clear : {X : Type 0} (P : X → Type 0) (xs : List X) (i : ℕ) (d : X) → i < length xs → All P (take i xs) → P (get_or xs i d) → All P (take (i + 1) xs)
one_more_clear P xs i d l front here = subst (All P) (sym (take_more xs i d l)) (All-push P (take i xs) (get_or xs i d) front here)

-- how a term begins

pub begins_free : (s : Contents) (id : TermId) (n : Node) → ((types : Table) → tree_of types s id ≡ node_tree types s n) → IsResolved s id → BeginsFree s n
begins_free s id (Lam a x b) reads clear = tt
begins_free s id (Spine h ts) reads clear = ((resolved_spine s id (Spine h ts) h ts reads refl).0 clear).0

pub names_below : (i j c : ℕ) (n : Node) → i < j → NodeNames i c n → NodeNames j c n
names_below i j c (Lam a x b) l names = omega (arith, l, names)
names_below i j c (Spine h ts) l names = (names.0, All-weaker (λ (t : TermId). t.0 < i) (λ t. t.0 < j) (λ t m. omega (arith, l, m)) ts names.1)
