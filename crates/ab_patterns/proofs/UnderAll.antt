-- Terms under a binder for each of several cells: part by part, and what a walk keeps that makes them.
use Rattle.std.proofs.Common.{◌≡◌, ◌≢◌, ℕ, zero, suc, ◌+◌, ◌-◌, ◌<◌, ◌≤◌, List, [], ◌∷◌, map, drop, length, get_or, refl, sym, ◌∙◌, ap, subst, arith}
use Rattle.std.specs.List.{All}
use Rattle.std.proofs.lemmas.List.{length-map}
use Rattle.std.proofs.lemmas.List.Elements.{All-head, All-tail}
use Rattle.ab_term.specs.Types.{Ty}
use Rattle.ab_term.specs.Terms as tree
use Rattle.ab_term.specs.Terms.{Variable, lam, spine, terms_of, Read}
use Rattle.ab_term.specs.Abstraction.{close, close_head}
use Rattle.ab_norm.specs.ab_types.specs.Entries.{Table}
use Rattle.ab_norm.specs.ab_types.specs.Ids.{type_of}
use Rattle.ab_norm.specs.ab_types.specs.declared.ids.TypeId.{TypeId}
use Rattle.ab_norm.specs.ab_types.specs.declared.ids.ConstId.{ConstId}
use Rattle.ab_norm.specs.ab_store.specs.declared.node.TermId.{TermId}
use Rattle.ab_norm.specs.ab_store.specs.declared.node.CellId.{CellId}
use Rattle.ab_norm.specs.ab_store.specs.declared.node.Logical.{Logical}
use Rattle.ab_norm.specs.ab_store.specs.declared.node.Head.{Head}
use Rattle.ab_norm.specs.ab_store.specs.declared.node.Head.TheVariants.{Const, Logic, Nominal, Cell}
use Rattle.ab_norm.specs.ab_store.specs.declared.node.Node.{Node}
use Rattle.ab_norm.specs.ab_store.specs.declared.node.Node.TheVariants.{Lam, Spine}
use Rattle.ab_norm.specs.ab_store.specs.Trees.{Contents, Holds, cell_in, tree_of, head_in, head_reading, node_tree}
use Rattle.ab_norm.specs.ab_store.specs.Reading.{cell_variable}
use Rattle.ab_norm.specs.ab_store.specs.Growth.{IsExtendedBy}
use Rattle.ab_norm.specs.NodeGrowth.{AddsTerms}
use Rattle.ab_norm.specs.declared.memo.Memo.{Memo}
use Rattle.ab_patterns.specs.Abstraction.{under_all, head_under_all, KeepsUnderAll}
use Rattle.ab_patterns.proofs.Closed.{close_all_read, closed_same, shift_index-below, shift_index-from}
use Rattle.ab_patterns.proofs.ToldApart.{other_head}

-- part by part

under_all_lam : (k : ℕ) (xs : List (Variable ℕ)) (A : Ty) (x : List ℕ) (t : Read) → under_all k xs (lam A x t) ≡ lam A x (under_all (suc k) xs t)
under_all_lam k [] A x t = refl
under_all_lam k (y ∷ ys) A x t =
    let same : suc (k + length ys) ≡ suc k + length ys = omega arith in
    ap (close (k + length ys) (tree.variable y)) (under_all_lam k ys A x t) ∙ ap (λ j. lam A x (close j (tree.variable y) (under_all (suc k) ys t))) same

under_all_spine : (k : ℕ) (xs : List (Variable ℕ)) (h : tree.Head ℕ) (f : TermId → Read) (ts : List TermId)
    → under_all k xs (spine h (terms_of (map f ts))) ≡ spine (head_under_all k xs h) (terms_of (map (λ t. under_all k xs (f t)) ts))
under_all_spine k [] h f ts = refl
under_all_spine k (x ∷ xs) h f ts =
    ap (close (k + length xs) (tree.variable x)) (under_all_spine k xs h f ts)
    ∙ ap (spine (head_under_all k (x ∷ xs) h)) (close_all_read (k + length xs) (tree.variable x) (λ t. under_all k xs (f t)) ts)

-- heads

stays_head : (k : ℕ) (xs : List (Variable ℕ)) (h : tree.Head ℕ) → ((n : ℕ) (x : Variable ℕ) → close_head (k + n) (tree.variable x) h ≡ h) → h ≡ head_under_all k xs h
stays_head k [] h same = refl
stays_head k (x ∷ xs) h same = sym (same (length xs) x) ∙ ap (close_head (k + length xs) (tree.variable x)) (stays_head k xs h same)

pub index_stays : (k i : ℕ) (xs : List (Variable ℕ)) → i < k → tree.index i ≡ head_under_all k xs (tree.index i)
index_stays k i xs l = stays_head k xs (tree.index i) (λ n x. ap tree.index (sym (shift_index-below (k + n) i (omega (arith, l)))))

rises : (k i n : ℕ) (xs : List (Variable ℕ)) → k ≤ i → n ≡ i + length xs → tree.index n ≡ head_under_all k xs (tree.index i)
rises k i n [] l e = ap tree.index (omega (arith, e))
rises k i n (x ∷ xs) l e =
    ap tree.index (shift_index-from (k + length xs) (i + length xs) n (omega (arith, l)) (omega (arith, e)))
    ∙ ap (close_head (k + length xs) (tree.variable x)) (rises k i (i + length xs) xs l refl)

pub index_rises : (k i n : ℕ) (cells : List CellId) (types : Table) (store : Contents) → k ≤ i → n ≡ i + length cells → tree.index n ≡ head_under_all k (map (cell_variable types store) cells) (tree.index i)
index_rises k i n cells types store l e = rises k i n (map (cell_variable types store) cells) l (omega (arith, e, length-map cells (cell_variable types store)))

module _ (types : Table) (store : Contents) where
  abbrev heads : List CellId → List (Variable ℕ)
  heads cells = map (cell_variable types store) cells

  pub cell_stays : (k : ℕ) (cells : List CellId) (cell : CellId) → All (λ c. c ≢ cell) cells → head_reading types store (Cell cell) ≡ head_under_all k (heads cells) (head_reading types store (Cell cell))
  cell_stays k [] cell none = refl
  cell_stays k (c ∷ cs) cell none =
      other_head types store (k + length (heads cs)) c (Cell cell) (λ e. All-head (λ d. d ≢ cell) c cs none (sym (one_cell cell c e)))
      ∙ ap (close_head (k + length (heads cs)) (head_reading types store (Cell c))) (cell_stays k cs cell (All-tail (λ d. d ≢ cell) c cs none))
    where
      one_cell : (a b : CellId) → Cell a ≡ Cell b → a ≡ b
      one_cell a b e = cc

  cell_at : (k : ℕ) (cells : List CellId) (cell d : CellId) (i n : ℕ) → length cells ≡ i + suc n → All (λ c. c ≢ cell) (drop (suc i) cells) → get_or cells i d ≡ cell
      → tree.index (k + n) ≡ head_under_all k (heads cells) (head_reading types store (Cell cell))
  cell_at k [] cell d i n e none here = absurd (omega (arith, e))
  cell_at k (c ∷ cs) cell d zero n e none here =
      let many : n ≡ length (heads cs) = omega (arith, e, length-map cs (cell_variable types store)) in
      ap (λ m. tree.index (k + m)) many
      ∙ closed_same types store (k + length (heads cs)) (Cell c) (Cell cell) (ap Cell (sym here))
      ∙ ap (close_head (k + length (heads cs)) (head_reading types store (Cell c))) (cell_stays k cs cell none)
  cell_at k (c ∷ cs) cell d (suc i) n e none here =
      ap tree.index (shift_index-below (k + length (heads cs)) (k + n) (omega (arith, e, length-map cs (cell_variable types store))))
      ∙ ap (close_head (k + length (heads cs)) (head_reading types store (Cell c))) (cell_at k cs cell d i n (omega (arith, e)) none here)

  pub cell_sinks : (k : ℕ) (cells : List CellId) (cell d : CellId) (n m : ℕ) → n < length cells → All (λ c. c ≢ cell) (drop (length cells - n) cells) → get_or cells (length cells - 1 - n) d ≡ cell → m ≡ k + n
      → tree.index m ≡ head_under_all k (heads cells) (head_reading types store (Cell cell))
  cell_sinks k cells cell d n m l none here e =
      let front : length cells - n ≡ suc (length cells - 1 - n) = omega (arith, l) in
      ap tree.index e
      ∙ cell_at k cells cell d (length cells - 1 - n) n (omega (arith, l)) (subst (λ j. All (λ c. c ≢ cell) (drop j cells)) front none) here

  same_stays : (k : ℕ) (cells : List CellId) (h g : Head) → h ≡ g → ((n : ℕ) (x : Variable ℕ) → close_head (k + n) (tree.variable x) (head_reading types store g) ≡ head_reading types store g)
      → head_reading types store h ≡ head_under_all k (heads cells) (head_reading types store h)
  same_stays k cells h g is same = subst (λ (h : Head). head_reading types store h ≡ head_under_all k (heads cells) (head_reading types store h)) (sym is) (stays_head k (heads cells) (head_reading types store g) same)

  pub const_stays : (k : ℕ) (cells : List CellId) (h : Head) (c : ConstId) → h ≡ Const c → head_reading types store h ≡ head_under_all k (heads cells) (head_reading types store h)
  const_stays k cells h c is = same_stays k cells h (Const c) is (λ n x. refl)

  pub logic_stays : (k : ℕ) (cells : List CellId) (h : Head) (l : Logical) → h ≡ Logic l → head_reading types store h ≡ head_under_all k (heads cells) (head_reading types store h)
  logic_stays k cells h l is = same_stays k cells h (Logic l) is (λ n x. refl)

  pub nominal_stays : (k : ℕ) (cells : List CellId) (h : Head) (m : ℕ) (a : TypeId) → h ≡ Nominal m a → head_reading types store h ≡ head_under_all k (heads cells) (head_reading types store h)
  nominal_stays k cells h m a is = same_stays k cells h (Nominal m a) is (λ n x. refl)

-- a node, from its parts

cells_on : (types : Table) (s0 s1 : Contents) (cells : List CellId) → s1.cells ≡ s0.cells → map (cell_variable types s1) cells ≡ map (cell_variable types s0) cells
cells_on types s0 s1 cells same = ap (λ es. map (λ (c : CellId). record { name = c.0; type = type_of types (cell_in es c).ty }) cells) same

module _ (types : Table) (s0 s1 s2 : Contents) (t r : TermId) (n : Node) (reads : tree_of types s0 t ≡ node_tree types s0 n) (at : ℕ) (cells : List CellId) where
  abbrev these : List (Variable ℕ)
  these = map (cell_variable types s0) cells

  pub under_lam : (deeper : ℕ) (ty : TypeId) (x : List ℕ) (body inner : TermId) → n ≡ Lam ty x body → deeper ≡ at + 1
      → tree_of types s1 inner ≡ under_all deeper these (tree_of types s0 body)
      → tree_of types s2 r ≡ lam (type_of types ty) x (tree_of types s1 inner)
      → tree_of types s2 r ≡ under_all at these (tree_of types s0 t)
  under_lam deeper ty x body inner is one here made =
      let d : deeper ≡ suc at = omega (arith, one) in
      made
      ∙ ap (lam (type_of types ty) x) (here ∙ ap (λ k. under_all k these (tree_of types s0 body)) d)
      ∙ sym (under_all_lam at these (type_of types ty) x (tree_of types s0 body))
      ∙ sym (ap (under_all at these) (reads ∙ ap (node_tree types s0) is))

  pub under_spine : (h g : Head) (args given closed : List TermId) → n ≡ Spine h args → s1.cells ≡ s0.cells → given ≡ args
      → head_reading types s1 g ≡ head_under_all at (map (cell_variable types s1) cells) (head_reading types s1 h)
      → map (tree_of types s1) closed ≡ map (λ t. under_all at these (tree_of types s0 t)) given
      → tree_of types s2 r ≡ spine (head_reading types s1 g) (terms_of (map (tree_of types s1) closed))
      → tree_of types s2 r ≡ under_all at these (tree_of types s0 t)
  under_spine h g args given closed is grown same head here made =
      made
      ∙ ap (λ x. spine x (terms_of (map (tree_of types s1) closed)))
      (head ∙ ap (λ xs. head_under_all at xs (head_reading types s1 h)) (cells_on types s0 s1 cells grown) ∙ ap (λ es. head_under_all at these (head_in types es h)) grown)
      ∙ ap (λ l. spine (head_under_all at these (head_reading types s0 h)) (terms_of l)) (here ∙ ap (map (λ t. under_all at these (tree_of types s0 t))) same)
      ∙ sym (under_all_spine at these (head_reading types s0 h) (tree_of types s0) args)
      ∙ sym (ap (under_all at these) (reads ∙ ap (node_tree types s0) is))

-- what is kept

module _ (cells : List CellId) where
  pub keeps_under_on : (s t : Contents) (memo : Memo) → IsExtendedBy s t → t.cells ≡ s.cells → KeepsUnderAll s cells memo → KeepsUnderAll t cells memo
  keeps_under_on s t memo more same kept u r k e =
      let was = kept u r k e in (
        more.ids u was.0,
        more.ids r was.1,
        λ types. more.trees types r was.1 ∙ was.2 types
            ∙ ap (λ xs. under_all k xs (tree_of types s u)) (sym (cells_on types s t cells same))
            ∙ ap (under_all k (map (cell_variable types t) cells)) (sym (more.trees types u was.0)),
      )

  pub under_here : (s t : Contents) (id r : TermId) (at : ℕ) → AddsTerms s t → Holds s id → Holds t r
      → ((types : Table) → tree_of types t r ≡ under_all at (map (cell_variable types s) cells) (tree_of types s id))
      → Holds t id × Holds t r × ((types : Table) → tree_of types t r ≡ under_all at (map (cell_variable types t) cells) (tree_of types t id))
  under_here s t id r at adds held made reads = (
    adds.before.ids id held,
    made,
    λ types. reads types
        ∙ ap (λ xs. under_all at xs (tree_of types s id)) (sym (cells_on types s t cells adds.cells))
        ∙ ap (under_all at (map (cell_variable types t) cells)) (sym (adds.before.trees types id held)),
  )

pub same_cells : (types : Table) (s t u : Contents) (cells : List CellId) (at : ℕ) (id r : TermId) → t.cells ≡ s.cells
    → tree_of types u r ≡ under_all at (map (cell_variable types t) cells) (tree_of types t id) → tree_of types u r ≡ under_all at (map (cell_variable types s) cells) (tree_of types t id)
same_cells types s t u cells at id r same e = e ∙ ap (λ xs. under_all at xs (tree_of types t id)) (cells_on types s t cells same)
