-- Trees with the first bindings put in, one after another: part by part, where a bound cell gives way, and what is left
-- to be put in.
use Rattle.std.proofs.Common.{◌≡◌, ◌≢◌, ◌⊎◌, inl, inr, ℕ, zero, suc, ◌+◌, ◌<◌, ◌≤◌, List, [], ◌∷◌, ◌++◌, map, take, drop, length, get_or, Bool, true, false, cond, ◌==◌, ◌&&◌, ◌||◌, None, Some, refl, sym, ◌∙◌, ap, subst, arith}
use Rattle.std.specs.Prelude.{All, AllPairs, Contains}
use Rattle.std.proofs.lemmas.Bool.Decides.{Decides-eqb}
use Rattle.std.proofs.lemmas.List.{map-append, get_or-map, length-map, take-map, take_all}
use Rattle.std.proofs.lemmas.List.Elements.{All-head, All-tail, All-map, All-take, All-weaker, All-same, Contains-append_left, Contains-append_right}
use Rattle.ab_term.specs.Types.{same_type}
use Rattle.ab_term.specs.Terms as tree
use Rattle.ab_term.specs.Terms.{Variable, Terms, lam, spine, terms_of, Read}
use Rattle.ab_term.specs.Substitution.{reduce}
use Rattle.ab_term.specs.Sameness.{same_number}
use Rattle.ab_term.specs.Variables.{variables, variables_of_head, variables_of_all, put_for, put_at, image_by, value_in, one_by_one}
use Rattle.ab_term.proofs.Lists.{Contains-none, Contains-here, Contains-there, Contains-cases, AllPairs-parts}
use Rattle.ab_term.proofs.InOrder.{one_by_one-append, one_by_one-lam}
use Rattle.ab_term.proofs.Comparisons.{same_variable-itself}
use Rattle.ab_store.specs.ab_types.specs.Entries.{Table}
use Rattle.ab_store.specs.ab_types.specs.Ids.{type_of}
use Rattle.ab_store.specs.ab_types.specs.declared.ids.TypeId.{TypeId}
use Rattle.ab_store.specs.declared.node.TermId.{TermId}
use Rattle.ab_store.specs.declared.node.CellId.{CellId}
use Rattle.ab_store.specs.declared.node.Head.{Head}
use Rattle.ab_store.specs.declared.node.Head.TheVariants.{Const, Logic, Nominal, Cell, Index}
use Rattle.ab_store.specs.declared.node.Node.{Node}
use Rattle.ab_store.specs.declared.node.Node.TheVariants.{Lam, Spine}
use Rattle.ab_store.specs.declared.node.Binding.{Binding}
use Rattle.ab_store.specs.Trees.{Contents, Holds, head_in, head_reading, tree_of, node_tree}
use Rattle.ab_store.specs.Reading.{cell_variable, pairs, reading}
use Rattle.ab_store.specs.Bindings.{IsResolved, AreInOrder}
use Rattle.ab_store.specs.Growth.{IsExtendedBy}
use Rattle.ab_store.specs.Naming.{BindingIsTyped, IsTypedBy}
use Rattle.ab_store.proofs.Agreeing.{Within, same_pairs}
use Rattle.ab_store.proofs.Cells.{numbers}
use Rattle.ab_store.proofs.Putting.{Pair, pair, Missing, all_unmoved, is_bound}
use Rattle.ab_norm.specs.declared.memo.Memo.{Memo}
use Rattle.ab_norm.specs.WalkMemory.{answer_of}
use Rattle.ab_norm.specs.Heads.{IsFree}
use Rattle.ab_norm.specs.ResolvedTerms.{put_first, KeepsPut, has, left, bindings_left, Becomes}
use Rattle.ab_norm.proofs.Changed.{map_twice, filled_all}
use Rattle.ab_norm.proofs.Clear.{unbound_by}
use Rattle.ab_norm.proofs.Resolved.{pair_on, first_gone, all_from_map}
use Rattle.ab_norm.proofs.Gathered.{pairs_map}

one_variable : (x y : Variable ℕ) → tree.variable x ≡ tree.variable y → x ≡ y
one_variable x y e = cc

abbrev cell_id : ℕ → CellId
cell_id n = record { 0 = n }

-- one after another, part by part

-- the head is another variable than the pair's, or none
abbrev pub Apart : tree.Head ℕ → Pair → Type 0
Apart h p = (x : Variable ℕ) → h ≡ tree.variable x → p.0.name ≢ x.name

stays_by : (p : Pair) (h : tree.Head ℕ) (ts : Terms ℕ (List ℕ)) → Apart h p → put_at (value_in same_number (p ∷ [])) h ts ≡ spine h ts
stays_by p (tree.constant c) ts apart = refl
stays_by p (tree.logical l) ts apart = refl
stays_by p (tree.nominal a) ts apart = refl
stays_by p (tree.index i) ts apart = refl
stays_by p (tree.variable x) ts apart = go (p.0.name == x.name) refl
  where
    go : (b : Bool) → (p.0.name == x.name) ≡ b → put_at (value_in same_number (p ∷ [])) (tree.variable x) ts ≡ spine (tree.variable x) ts
    go true e = absurd (apart x refl ((Decides-eqb p.0.name x.name).0 e))
    go false e = ap (λ b. put_for x (cond (b && same_type p.0.type x.type) (Some p.1) None) ts) e

map_none : (rs : List Read) → map (one_by_one same_number []) rs ≡ rs
map_none [] = refl
map_none (r ∷ rs) = ap (λ l. r ∷ l) (map_none rs)

abbrev all_in : List Pair → List Read → Terms ℕ (List ℕ)
all_in ps rs = terms_of (map (one_by_one same_number ps) rs)

pub rigid_spine : (ps : List Pair) (h : tree.Head ℕ) (rs : List Read) → All (Apart h) ps → one_by_one same_number ps (spine h (terms_of rs)) ≡ spine h (all_in ps rs)
rigid_spine [] h rs apart = ap (λ l. spine h (terms_of l)) (sym (map_none rs))
rigid_spine (p ∷ ps) h rs apart =
    let f = value_in same_number (p ∷ []) in
    ap (one_by_one same_number ps) (ap (put_at f h) (filled_all f rs) ∙ stays_by p h (terms_of (map (image_by f) rs)) (All-head (Apart h) p ps apart))
    ∙ rigid_spine ps h (map (image_by f) rs) (All-tail (Apart h) p ps apart)
    ∙ ap (λ l. spine h (terms_of l)) (map_twice (one_by_one same_number ps) (image_by f) rs)

abbrev Differ : Pair → Pair → Type 0
Differ p q = p.0.name ≢ q.0.name

-- the variable of one of the pairs gives way to its term, once the pairs up to it are put in
pub bound_spine : (ps : List Pair) (j : ℕ) (d : Pair) (rs : List Read) → j < length ps → AllPairs Differ ps
    → one_by_one same_number (take (suc j) ps) (spine (tree.variable (get_or ps j d).0) (terms_of rs)) ≡ reduce (get_or ps j d).0.type (get_or ps j d).1 (all_in (take (suc j) ps) rs)
bound_spine [] j d rs l once = absurd (omega arith)
bound_spine (p ∷ ps) zero d rs l once =
    let f = value_in same_number (p ∷ []) in
    ap (put_at f (tree.variable p.0)) (filled_all f rs)
    ∙ ap (λ b. put_for p.0 (cond b (Some p.1) None) (terms_of (map (image_by f) rs))) (same_variable-itself same_number p.0 ((Decides-eqb p.0.name p.0.name).1 refl))
bound_spine (p ∷ ps) (suc j) d rs l once =
    let f = value_in same_number (p ∷ []) in
    let q = get_or ps j d in
    let parts = AllPairs-parts Differ p ps once in
    let apart : Apart (tree.variable q.0) p = λ x e same. parts.0 j d (omega arith) (same ∙ ap (λ (y : Variable ℕ). y.name) (sym (one_variable q.0 x e))) in
    ap (one_by_one same_number (take (suc j) ps)) (ap (put_at f (tree.variable q.0)) (filled_all f rs) ∙ stays_by p (tree.variable q.0) (terms_of (map (image_by f) rs)) apart)
    ∙ bound_spine ps j d (map (image_by f) rs) (omega arith) parts.1
    ∙ ap (λ l. reduce q.0.type q.1 (terms_of l)) (map_twice (one_by_one same_number (take (suc j) ps)) (image_by f) rs)

split_first : (j k : ℕ) (ps : List Pair) → j ≤ k → take k ps ≡ take j ps ++ drop j (take k ps)
split_first zero k ps l = refl
split_first (suc j) zero ps l = absurd (omega arith)
split_first (suc j) (suc k) [] l = refl
split_first (suc j) (suc k) (p ∷ ps) l = ap (λ qs. p ∷ qs) (split_first j k ps (omega arith))

-- where the first pairs are put in already, and their variables are gone
absorbed : (ps : List Pair) (j k : ℕ) (t : Read) → j ≤ k → All (Missing (one_by_one same_number (take j ps) t)) (take j ps)
    → one_by_one same_number (take k ps) (one_by_one same_number (take j ps) t) ≡ one_by_one same_number (take k ps) t
absorbed ps j k t l gone =
    let first = take j ps in
    let rest = drop j (take k ps) in
    let here = one_by_one same_number first t in
    ap (λ qs. one_by_one same_number qs here) (split_first j k ps l)
    ∙ one_by_one-append same_number first rest here
    ∙ ap (one_by_one same_number rest) (all_unmoved first here gone)
    ∙ sym (ap (λ qs. one_by_one same_number qs t) (split_first j k ps l) ∙ one_by_one-append same_number first rest t)

-- a store that has grown

module _ (types : Table) (s0 s1 : Contents) (typed : IsTypedBy types s0) (more : IsExtendedBy s0 s1) where
  pub pairs_on : pairs types s1 ≡ pairs types s0
  pairs_on =
      ap (map (pair types s1)) more.bindings
      ∙ same_pairs s0 s1 (length s0.nodes) (length s0.cells) (record { trees = λ ts t l. more.trees ts t l; cells = λ c l. more.cells c l }) types s0.bindings
      (All-weaker (BindingIsTyped types s0) (Within (length s0.nodes) (length s0.cells)) (λ b h. (h.0, h.1.0)) s0.bindings typed.bindings)

  pub put_on : (k : ℕ) (t : Read) → put_first types s1 k t ≡ put_first types s0 k t
  put_on k t = ap (λ ps. one_by_one same_number (take k ps) t) pairs_on

  pub put_there : (k : ℕ) (t r : TermId) → Holds s0 t → tree_of types s1 r ≡ put_first types s0 k (tree_of types s0 t) → tree_of types s1 r ≡ put_first types s1 k (tree_of types s1 t)
  put_there k t r held e = e ∙ sym (put_on k (tree_of types s0 t)) ∙ ap (put_first types s1 k) (sym (more.trees types t held))

  pub becomes_on : (k : ℕ) (whole : Read) (t : TermId) → Becomes types s0 k whole t → Becomes types s1 k whole t
  becomes_on k whole t b = (more.ids t b.0, ap (put_first types s1 k) (more.trees types t b.0) ∙ put_on k (tree_of types s0 t) ∙ b.1)

  pub keeps_on : (m : Memo) → KeepsPut types s0 m → KeepsPut types s1 m
  keeps_on m known t r k e =
      let was = known t r k e in
      (more.ids t was.0, more.ids r was.1, put_there k t r was.0 (more.trees types r was.1 ∙ was.2))

  pub all_still : (k : ℕ) (whole : Read) (ts : List TermId) → All (Becomes types s0 k whole) ts → All (Becomes types s1 k whole) ts
  all_still k whole ts all = All-weaker (Becomes types s0 k whole) (Becomes types s1 k whole) (becomes_on k whole) ts all

-- one answer more
pub keeps_more : (types : Table) (s : Contents) (old new : Memo) (id made : TermId) (count : ℕ)
    → KeepsPut types s old → Holds s id → Holds s made → tree_of types s made ≡ put_first types s count (tree_of types s id)
    → ((t : TermId) (k : ℕ) → (answer_of new t k ≡ answer_of old t k) ⊎ ((t ≡ id) × (k ≡ count) × (answer_of new t k ≡ Some made)))
    → KeepsPut types s new
keeps_more types s old new id made count known held out reads keeps t r k e = go (keeps t k)
  where
    go : (answer_of new t k ≡ answer_of old t k) ⊎ ((t ≡ id) × (k ≡ count) × (answer_of new t k ≡ Some made))
        → Holds s t × Holds s r × (tree_of types s r ≡ put_first types s k (tree_of types s t))
    go (inl same) = known t r k (sym same ∙ e)
    go (inr one) =
        let is : made ≡ r = cc (sym one.2 ∙ e) in (
          subst (Holds s) (sym one.0) held,
          subst (Holds s) is out,
          ap (tree_of types s) (sym is) ∙ reads ∙ ap (λ j. put_first types s j (tree_of types s id)) (sym one.1) ∙ ap (λ i. put_first types s k (tree_of types s i)) (sym one.0),
        )

-- the same answer for each of the terms
pub keeps_next : (types : Table) (s : Contents) (old new : Memo) (ids : List TermId) (i : ℕ) (d made : TermId) (count : ℕ)
    → i < length ids → All (Becomes types s count (tree_of types s made)) ids → Holds s made → KeepsPut types s old
    → ((t : TermId) (k : ℕ) → (answer_of new t k ≡ answer_of old t k) ⊎ ((t ≡ get_or ids i d) × (k ≡ count) × (answer_of new t k ≡ Some made)))
    → KeepsPut types s new
keeps_next types s old new ids i d made count l all held known keeps =
    keeps_more types s old new (get_or ids i d) made count known (all i d l).0 held (sym (all i d l).1) keeps

-- what becomes of a term that becomes the tree is the answer for all terms that do
pub all_become : (types : Table) (s : Contents) (k : ℕ) (whole answer here : Read) (xs ys : List TermId) → ys ≡ xs → answer ≡ here → here ≡ whole
    → All (Becomes types s k whole) xs → All (Becomes types s k answer) ys
all_become types s k whole answer here xs ys same made is all =
    All-same (Becomes types s k answer) ys xs same (All-weaker (Becomes types s k whole) (Becomes types s k answer) (λ t b. (b.0, b.1 ∙ sym is ∙ sym made)) xs all)

pub becomes_same : (types : Table) (s0 s1 : Contents) (k : ℕ) (whole : Read) (id next : TermId) → Becomes types s1 k (put_first types s0 k (tree_of types s0 id)) next → Becomes types s0 k whole id → Becomes types s1 k whole next
becomes_same types s0 s1 k whole id next made is = (made.0, made.1 ∙ is.1)

pub keeps_none : (types : Table) (s : Contents) (m : Memo) → ((t : TermId) (k : ℕ) → answer_of m t k ≡ None) → KeepsPut types s m
keeps_none types s m none t r k e = absurd (cc (sym (none t k) ∙ e))

-- a node, from its parts

any_default : (bs : List Binding) (i : ℕ) (d e : Binding) → i < length bs → get_or bs i d ≡ get_or bs i e
any_default [] i d e l = absurd (omega (arith, l))
any_default (b ∷ bs) zero d e l = refl
any_default (b ∷ bs) (suc i) d e l = any_default bs i d e (omega (arith, l))

pub same_cell : (bs cs : List Binding) (i : ℕ) (d : Binding) (h : Head) → bs ≡ cs → i < length cs → h ≡ Cell (get_or bs i d).cell → (e : Binding) → h ≡ Cell (get_or cs i e).cell
same_cell bs cs i d h same l here e = here ∙ ap (λ l. Cell (get_or l i d).cell) same ∙ ap (λ (b : Binding). Cell b.cell) (any_default cs i d e l)

pub unbound_apart : (s : Contents) (h : Head) → IsFree s h → (n : ℕ) → All (λ (b : Binding). h ≢ Cell b.cell) (take n s.bindings)
unbound_apart s h free n = All-take (λ (b : Binding). h ≢ Cell b.cell) n s.bindings (λ i d l e. is_bound s.bindings i d l (subst (IsFree s) e free))

module _ (types : Table) (s0 s1 s2 : Contents) (k : ℕ) (id r : TermId) (n : Node) (reads : tree_of types s0 id ≡ node_tree types s0 n) where
  pub put_lam : (ty : TypeId) (x : List ℕ) (body inner : TermId) → n ≡ Lam ty x body → tree_of types s1 inner ≡ put_first types s0 k (tree_of types s0 body)
      → tree_of types s2 r ≡ lam (type_of types ty) x (tree_of types s1 inner) → tree_of types s2 r ≡ put_first types s0 k (tree_of types s0 id)
  put_lam ty x body inner is here made =
      made
      ∙ ap (lam (type_of types ty) x) here
      ∙ sym (one_by_one-lam same_number (take k (pairs types s0)) (type_of types ty) x (tree_of types s0 body))
      ∙ sym (ap (put_first types s0 k) (reads ∙ ap (node_tree types s0) is))

  head_apart : (h : Head) (b : Binding) → h ≢ Cell b.cell → Apart (head_reading types s0 h) (pair types s0 b)
  head_apart (Const c) b apart x e = absurd (cc)
  head_apart (Logic l) b apart x e = absurd (cc)
  head_apart (Nominal m a) b apart x e = absurd (cc)
  head_apart (Index i) b apart x e = absurd (cc)
  head_apart (Cell c) b apart x e = λ same. apart (ap (λ m. Cell (cell_id m)) (ap (λ (y : Variable ℕ). y.name) (one_variable (cell_variable types s0 c) x e) ∙ sym same))

  pub put_spine : (h : Head) (args given made : List TermId) → n ≡ Spine h args → s1.cells ≡ s0.cells → given ≡ args
      → All (λ (b : Binding). h ≢ Cell b.cell) (take k s0.bindings)
      → map (tree_of types s1) made ≡ map (λ t. put_first types s0 k (tree_of types s0 t)) given
      → tree_of types s2 r ≡ spine (head_reading types s1 h) (terms_of (map (tree_of types s1) made))
      → tree_of types s2 r ≡ put_first types s0 k (tree_of types s0 id)
  put_spine h args given made is cells same apart here put =
      let ps = take k (pairs types s0) in
      let g = head_reading types s0 h in
      let others : All (Apart g) ps =
      subst (All (Apart g)) (sym (take-map (pair types s0) k s0.bindings))
      (All-map (Apart g) (pair types s0) (take k s0.bindings) (All-weaker (λ (b : Binding). h ≢ Cell b.cell) (λ b. Apart g (pair types s0 b)) (λ b. head_apart h b) (take k s0.bindings) apart)) in
      put
      ∙ ap (λ cs. spine (head_in types cs h) (terms_of (map (tree_of types s1) made))) cells
      ∙ ap (λ l. spine g (terms_of l)) (here ∙ ap (map (λ t. put_first types s0 k (tree_of types s0 t))) same ∙ sym (map_twice (one_by_one same_number ps) (tree_of types s0) args))
      ∙ sym (rigid_spine ps g (map (tree_of types s0) args) others)
      ∙ sym (ap (put_first types s0 k) (reads ∙ ap (node_tree types s0) is))

  -- the head is the cell of the binding at the place before k
  pub put_bound : (h : Head) (args given made passed : List TermId) (j : ℕ) (d : Binding) → passed ≡ made → n ≡ Spine h args → AreInOrder s0 → IsExtendedBy s0 s1 → j < length s0.bindings → k ≡ suc j
      → h ≡ Cell (get_or s0.bindings j d).cell → given ≡ args
      → map (tree_of types s1) made ≡ map (λ t. put_first types s0 k (tree_of types s0 t)) given
      → tree_of types s2 r ≡ reduce (pair types s1 (get_or s1.bindings j d)).0.type (pair types s1 (get_or s1.bindings j d)).1 (terms_of (map (tree_of types s1) passed))
      → tree_of types s2 r ≡ put_first types s0 k (tree_of types s0 id)
  put_bound h args given made passed j d given_on is order more l own head same here put =
      let b = get_or s0.bindings j d in
      let ps = pairs types s0 in
      let e = pair types s0 d in
      let held = order.held j d l in
      let now : pair types s1 (get_or s1.bindings j d) ≡ get_or ps j e =
      ap (λ bs. pair types s1 (get_or bs j d)) more.bindings ∙ pair_on types s0 s1 more b held.0 held.1 ∙ sym (get_or-map (pair types s0) s0.bindings j d e l) in
      let within : j < length ps = omega (arith, l, length-map s0.bindings (pair types s0)) in
      let once : AllPairs Differ ps = pairs_map (pair types s0) Differ s0.bindings (λ i m c low high same. order.once i m c low high (ap cell_id same)) in
      put
      ∙ ap (λ l. reduce (pair types s1 (get_or s1.bindings j d)).0.type (pair types s1 (get_or s1.bindings j d)).1 (terms_of (map (tree_of types s1) l))) given_on
      ∙ ap (λ (p : Pair). reduce p.0.type p.1 (terms_of (map (tree_of types s1) made))) now
      ∙ ap (λ l. reduce (get_or ps j e).0.type (get_or ps j e).1 (terms_of l)) (here ∙ ap (map (λ t. put_first types s0 k (tree_of types s0 t))) same ∙ sym (map_twice (put_first types s0 k) (tree_of types s0) args))
      ∙ ap (λ i. reduce (get_or ps j e).0.type (get_or ps j e).1 (all_in (take i ps) (map (tree_of types s0) args))) own
      ∙ sym (bound_spine ps j e (map (tree_of types s0) args) within once)
      ∙ ap (λ i. one_by_one same_number (take i ps) (spine (tree.variable (get_or ps j e).0) (terms_of (map (tree_of types s0) args)))) (sym own)
      ∙ sym (ap (put_first types s0 k) (reads ∙ ap (node_tree types s0) is ∙ ap (λ g. spine (head_reading types s0 g) (terms_of (map (tree_of types s0) args))) head
      ∙ ap (λ (p : Pair). spine (tree.variable p.0) (terms_of (map (tree_of types s0) args))) (sym (get_or-map (pair types s0) s0.bindings j d e l))))

-- what comes of a bound head becomes the same
pub put_rest : (types : Table) (s0 s1 : Contents) (j k : ℕ) (id made : TermId) → AreInOrder s0 → IsTypedBy types s0 → IsExtendedBy s0 s1 → j ≤ k
    → tree_of types s1 made ≡ put_first types s0 j (tree_of types s0 id)
    → put_first types s1 k (tree_of types s1 made) ≡ put_first types s0 k (tree_of types s0 id)
put_rest types s0 s1 j k id made order typed more l first =
    put_on types s0 s1 typed more k (tree_of types s1 made)
    ∙ ap (put_first types s0 k) first
    ∙ absorbed (pairs types s0) j k (tree_of types s0 id) l (first_gone types s0 j id order)

resolved_misses : (types : Table) (s : Contents) (id : TermId) → IsResolved s id → All (Missing (tree_of types s id)) (pairs types s)
resolved_misses types s id clear =
    All-map (Missing (tree_of types s id)) (pair types s) s.bindings (λ i d l m. is_bound s.bindings i d l (unbound_by types s id clear (get_or s.bindings i d).cell.0 m))

pub put_none : (types : Table) (s : Contents) (k : ℕ) (id : TermId) → IsResolved s id → tree_of types s id ≡ put_first types s k (tree_of types s id)
put_none types s k id clear = sym (all_unmoved (take k (pairs types s)) (tree_of types s id) (All-take (Missing (tree_of types s id)) k (pairs types s) (resolved_misses types s id clear)))

pub put_all : (types : Table) (s : Contents) (k : ℕ) (id : TermId) → length s.bindings ≤ k → put_first types s k (tree_of types s id) ≡ reading types s id
put_all types s k id l = ap (λ ps. one_by_one same_number ps (tree_of types s id)) (take_all k (pairs types s) (omega (arith, l, length-map s.bindings (pair types s))))

-- what is left to be put in

has_it : (ns : List ℕ) (n : ℕ) → Contains ns n → has ns n ≡ true
has_it [] n m = absurd (Contains-none n m)
has_it (k ∷ ks) n m = go (has_it ks n) (k == n) refl (Contains-cases k ks n m)
  where
    go : (Contains ks n → has ks n ≡ true) → (b : Bool) → (k == n) ≡ b → (k ≡ n) ⊎ Contains ks n → (b || has ks n) ≡ true
    go more true e either = refl
    go more false e (inl same) = absurd (cc (sym e ∙ (Decides-eqb k n).1 same))
    go more false e (inr rest) = more rest

it_has : (ns : List ℕ) (n : ℕ) → has ns n ≡ true → Contains ns n
it_has [] n e = absurd (cc)
it_has (k ∷ ks) n e = go (it_has ks n) (k == n) refl e
  where
    go : (has ks n ≡ true → Contains ks n) → (b : Bool) → (k == n) ≡ b → (b || has ks n) ≡ true → Contains (k ∷ ks) n
    go more true same f = subst (Contains (k ∷ ks)) ((Decides-eqb k n).0 same) (Contains-here k ks)
    go more false same f = Contains-there k ks n (more f)

left_most : (bs : List Binding) (ns : List ℕ) → left bs ns ≤ length bs
left_most [] ns = omega arith
left_most (b ∷ bs) ns = go (left_most bs ns) (has ns b.cell.0)
  where
    go : left bs ns ≤ length bs → (t : Bool) → cond t (suc (length bs)) (left bs ns) ≤ suc (length bs)
    go more true = omega arith
    go more false = omega (arith, more)

pub left_fewer : (bs : List Binding) (ns ms : List ℕ) → ((n : ℕ) → Contains ns n → Contains ms n) → left bs ns ≤ left bs ms
left_fewer [] ns ms all = omega arith
left_fewer (b ∷ bs) ns ms all = go (left_fewer bs ns ms all) (has ns b.cell.0) (has ms b.cell.0) refl refl
  where
    go : left bs ns ≤ left bs ms → (t u : Bool) → has ns b.cell.0 ≡ t → has ms b.cell.0 ≡ u → cond t (suc (length bs)) (left bs ns) ≤ cond u (suc (length bs)) (left bs ms)
    go more true true e f = omega arith
    go more true false e f = absurd (cc (sym f ∙ has_it ms b.cell.0 (all b.cell.0 (it_has ns b.cell.0 e))))
    go more false true e f = omega (arith, left_most bs ns)
    go more false false e f = more

abbrev Gone : List ℕ → Binding → Type 0
Gone ns b = Contains ns b.cell.0 → ⊥

-- the first of the cells aren't there
left_behind : (bs : List Binding) (ns : List ℕ) (j : ℕ) → j < length bs → All (Gone ns) (take (suc j) bs) → left bs ns + j < length bs
left_behind [] ns j l none = absurd (omega arith)
left_behind (b ∷ bs) ns j l none = go j l none (λ i. left_behind bs ns i) (has ns b.cell.0) refl
  where
    go : (j : ℕ) → j < suc (length bs) → All (Gone ns) (take (suc j) (b ∷ bs)) → ((i : ℕ) → i < length bs → All (Gone ns) (take (suc i) bs) → left bs ns + i < length bs)
        → (t : Bool) → has ns b.cell.0 ≡ t → cond t (suc (length bs)) (left bs ns) + j < suc (length bs)
    go zero l none more true e = absurd (All-head (Gone ns) b (take 0 bs) none (it_has ns b.cell.0 e))
    go zero l none more false e = omega (arith, left_most bs ns)
    go (suc i) l none more true e = absurd (All-head (Gone ns) b (take (suc i) bs) none (it_has ns b.cell.0 e))
    go (suc i) l none more false e = omega (arith, more i (omega (arith, l)) (All-tail (Gone ns) b (take (suc i) bs) none))

-- one of the cells is there
left_before : (bs : List Binding) (ns : List ℕ) (j : ℕ) (d : Binding) → j < length bs → Contains ns (get_or bs j d).cell.0 → length bs ≤ left bs ns + j
left_before [] ns j d l there = absurd (omega arith)
left_before (b ∷ bs) ns j d l there = go j l there (λ i. left_before bs ns i d) (has ns b.cell.0) refl
  where
    go : (j : ℕ) → j < suc (length bs) → Contains ns (get_or (b ∷ bs) j d).cell.0 → ((i : ℕ) → i < length bs → Contains ns (get_or bs i d).cell.0 → length bs ≤ left bs ns + i)
        → (t : Bool) → has ns b.cell.0 ≡ t → suc (length bs) ≤ cond t (suc (length bs)) (left bs ns) + j
    go j l there more true e = omega arith
    go zero l there more false e = absurd (cc (sym e ∙ has_it ns b.cell.0 there))
    go (suc i) l there more false e = omega (arith, more i (omega (arith, l)) there)

abbrev pub numbers_of : Table → Contents → List TermId → List ℕ
numbers_of types s ts = map (λ (x : Variable ℕ). x.name) (variables_of_all (terms_of (map (tree_of types s) ts)))

module _ (types : Table) (s : Contents) where
  pub left_body : (id body : TermId) (n : Node) (ty : TypeId) (x : List ℕ) → tree_of types s id ≡ node_tree types s n → n ≡ Lam ty x body
      → left s.bindings (numbers (tree_of types s body)) ≤ left s.bindings (numbers (tree_of types s id))
  left_body id body n ty x reads is =
      left_fewer s.bindings (numbers (tree_of types s body)) (numbers (tree_of types s id)) (λ m there. subst (λ (t : Read). Contains (numbers t) m) (sym (reads ∙ ap (node_tree types s) is)) there)

  spine_numbers : (id : TermId) (n : Node) (h : Head) (ts : List TermId) → tree_of types s id ≡ node_tree types s n → n ≡ Spine h ts
      → numbers (tree_of types s id) ≡ map (λ (x : Variable ℕ). x.name) (variables_of_head (head_reading types s h)) ++ numbers_of types s ts
  spine_numbers id n h ts reads is =
      ap numbers (reads ∙ ap (node_tree types s) is)
      ∙ map-append (λ (x : Variable ℕ). x.name) (variables_of_head (head_reading types s h)) (variables_of_all (terms_of (map (tree_of types s) ts)))

  pub left_args : (id : TermId) (n : Node) (h : Head) (ts given : List TermId) → tree_of types s id ≡ node_tree types s n → n ≡ Spine h ts → given ≡ ts
      → left s.bindings (numbers_of types s given) ≤ left s.bindings (numbers (tree_of types s id))
  left_args id n h ts given reads is same =
      left_fewer s.bindings (numbers_of types s given) (numbers (tree_of types s id)) (λ m there.
      subst (λ l. Contains l m) (sym (spine_numbers id n h ts reads is)) (Contains-append_right _ (numbers_of types s ts) m (subst (λ l. Contains (numbers_of types s l) m) same there)))

  in_all : (ts : List TermId) (i : ℕ) (d : TermId) → i < length ts → (m : ℕ) → Contains (numbers (tree_of types s (get_or ts i d))) m → Contains (numbers_of types s ts) m
  in_all [] i d l m there = absurd (omega arith)
  in_all (t ∷ ts) i d l m there =
      subst (λ l. Contains l m) (sym (map-append (λ (x : Variable ℕ). x.name) (variables (tree_of types s t)) (variables_of_all (terms_of (map (tree_of types s) ts))))) (go i l there (λ j. in_all ts j d))
    where
      go : (i : ℕ) → i < suc (length ts) → Contains (numbers (tree_of types s (get_or (t ∷ ts) i d))) m
          → ((j : ℕ) → j < length ts → (m : ℕ) → Contains (numbers (tree_of types s (get_or ts j d))) m → Contains (numbers_of types s ts) m)
          → Contains (numbers (tree_of types s t) ++ numbers_of types s ts) m
      go zero l there more = Contains-append_left (numbers (tree_of types s t)) (numbers_of types s ts) m there
      go (suc i) l there more = Contains-append_right (numbers (tree_of types s t)) (numbers_of types s ts) m (more i (omega (arith, l)) m there)

  -- in a store that has grown
  pub left_one : (s1 : Contents) → IsExtendedBy s s1 → (ts : List TermId) (i : ℕ) (d : TermId) → i < length ts → All (Holds s) ts
      → left s1.bindings (numbers (tree_of types s1 (get_or ts i d))) ≤ left s.bindings (numbers_of types s ts)
  left_one s1 more ts i d l held =
      subst (λ n. n ≤ left s.bindings (numbers_of types s ts))
      (sym (ap (λ bs. left bs (numbers (tree_of types s1 (get_or ts i d)))) more.bindings ∙ ap (λ t. left s.bindings (numbers t)) (more.trees types (get_or ts i d) (held i d l))))
      (left_fewer s.bindings (numbers (tree_of types s (get_or ts i d))) (numbers_of types s ts) (in_all ts i d l))

  -- the head is the cell of a binding
  pub left_made : (s1 : Contents) → IsExtendedBy s s1 → AreInOrder s → (id made : TermId) (n : Node) (h : Head) (ts : List TermId) (j k : ℕ) (d : Binding) → k ≡ suc j → tree_of types s id ≡ node_tree types s n → n ≡ Spine h ts
      → j < length s.bindings → h ≡ Cell (get_or s.bindings j d).cell → tree_of types s1 made ≡ put_first types s k (tree_of types s id)
      → bindings_left types s1 made < bindings_left types s id
  left_made s1 more order id made n h ts j k d own reads is l head first =
      let whole = tree_of types s id in
      let next = put_first types s (suc j) whole in
      let gone : All (Gone (numbers next)) (take (suc j) s.bindings) = λ i e m.
      first_missing (suc j) i e m next (first_gone types s (suc j) id order) in
      let there : Contains (numbers whole) (get_or s.bindings j d).cell.0 =
      subst (λ l. Contains l (get_or s.bindings j d).cell.0) (sym (spine_numbers id n h ts reads is))
      (Contains-append_left _ (numbers_of types s ts) _ (subst (λ g. Contains (map (λ (x : Variable ℕ). x.name) (variables_of_head (head_reading types s g))) (get_or s.bindings j d).cell.0) (sym head) (Contains-here _ []))) in
      let small = left_behind s.bindings (numbers next) j l gone in
      let large = left_before s.bindings (numbers whole) j d l there in
      let same : left s1.bindings (numbers (tree_of types s1 made)) ≡ left s.bindings (numbers next) =
      ap (λ bs. left bs (numbers (tree_of types s1 made))) more.bindings ∙ ap (λ t. left s.bindings (numbers t)) (first ∙ ap (λ i. put_first types s i whole) own) in
      omega (arith, small, large, same)
    where
      first_missing : (k i : ℕ) (e : Binding) → i < length (take k s.bindings) → (t : Read) → All (Missing t) (take k (pairs types s)) → Contains (numbers t) (get_or (take k s.bindings) i e).cell.0 → ⊥
      first_missing k i e m t all = all_from_map (pair types s) (Missing t) (take k s.bindings) (subst (All (Missing t)) (take-map (pair types s) k s.bindings) all) i e m
