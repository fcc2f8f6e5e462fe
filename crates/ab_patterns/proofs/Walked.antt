-- What walks that only read find out, part by part.
use Rattle.std.proofs.Common.{◌≡◌, ◌≢◌, ◌⊎◌, inl, inr, ◌↔◌, ℕ, zero, suc, ◌+◌, ◌-◌, ◌<◌, ◌≤◌, List, [], ◌∷◌, ◌++◌, map, Bool, true, false, ◌||◌, ◌&&◌, refl, sym, ◌∙◌, ap, subst, arith}
use Rattle.std.specs.List.{All, list_any}
use Rattle.std.proofs.lemmas.List.Elements.{All-nil, All-cons, All-head, All-tail}
use Rattle.std.proofs.lemmas.Bool.{false≢true, false_from_ne_true}
use Rattle.ab_term.specs.Terms as tree
use Rattle.ab_term.specs.Terms.{Variable, Term, Terms, lam, spine, no_terms, term, terms_of, Read}
use Rattle.ab_term.specs.Variables.{variables, variables_of_head, variables_of_all}
use Rattle.ab_term.specs.Sameness.{same_numbered}
use Rattle.ab_term.specs.Abstraction.{among, may_stand}
use Rattle.ab_term.proofs.Same.{same_numbered-Decides}
use Rattle.ab_term.proofs.Only.{may_stand-under, innermost_stands}
use Rattle.ab_norm.specs.ab_types.specs.Entries.{Table}
use Rattle.ab_norm.specs.ab_types.specs.declared.ids.TypeId.{TypeId}
use Rattle.ab_norm.specs.ab_store.specs.declared.node.TermId.{TermId}
use Rattle.ab_norm.specs.ab_store.specs.declared.node.CellId.{CellId}
use Rattle.ab_norm.specs.ab_store.specs.declared.node.Head.{Head}
use Rattle.ab_norm.specs.ab_store.specs.declared.node.Head.TheVariants.{Const, Logic, Nominal, Cell, Index}
use Rattle.ab_norm.specs.ab_store.specs.declared.node.Node.{Node}
use Rattle.ab_norm.specs.ab_store.specs.declared.node.Node.TheVariants.{Lam, Spine}
use Rattle.ab_norm.specs.ab_store.specs.Trees.{Contents, tree_of, node_tree, head_reading}
use Rattle.ab_norm.specs.ab_store.specs.Reading.{cell_variable}
use Rattle.ab_unifiers.specs.Replacements.{holds, occurs, is_flexible, no_foreign, no_foreign_all}
use Rattle.ab_patterns.specs.declared.visited_nodes.Seen.{Seen}
use Rattle.ab_patterns.specs.ReadingWalks.{has_been, deep, IsAbsent, IsOwn}

-- one term more is kept
pub kept_more : (P : TermId → ℕ → Type 0) (old new : Seen) (id : TermId) (depth : ℕ) → ((t : TermId) (k : ℕ) → has_been old t k ≡ true → P t k) → P id depth
    → ((t : TermId) (k : ℕ) → (has_been new t k ≡ has_been old t k) ⊎ ((t ≡ id) × (k ≡ depth))) → (t : TermId) (k : ℕ) → has_been new t k ≡ true → P t k
kept_more P old new id depth known here keeps t k e = go (keeps t k)
  where
    go : (has_been new t k ≡ has_been old t k) ⊎ ((t ≡ id) × (k ≡ depth)) → P t k
    go (inl same) = known t k (sym same ∙ e)
    go (inr one) = subst (λ i. P i k) (sym one.0) (subst (P id) (sym one.1) here)

-- occurrence

any_append : {X : Type 0} (f : X → Bool) (xs ys : List X) → list_any f xs ≡ false → list_any f (xs ++ ys) ≡ list_any f ys
any_append f [] ys e = refl
any_append f (x ∷ xs) ys e = go (f x) refl e (any_append f xs ys)
  where
    go : (b : Bool) → f x ≡ b → (b || list_any f xs) ≡ false → (list_any f xs ≡ false → list_any f (xs ++ ys) ≡ list_any f ys) → (f x || list_any f (xs ++ ys)) ≡ list_any f ys
    go true here e rest = absurd (false≢true (sym e))
    go false here e rest = ap (λ b. b || list_any f (xs ++ ys)) here ∙ rest e

any_front : {X : Type 0} (f : X → Bool) (xs ys : List X) → list_any f (xs ++ ys) ≡ false → list_any f xs ≡ false
any_front f [] ys e = refl
any_front f (x ∷ xs) ys e = go (f x) refl e (any_front f xs ys)
  where
    go : (b : Bool) → f x ≡ b → (b || list_any f (xs ++ ys)) ≡ false → (list_any f (xs ++ ys) ≡ false → list_any f xs ≡ false) → (f x || list_any f xs) ≡ false
    go true here e rest = absurd (false≢true (sym e))
    go false here e rest = ap (λ b. b || list_any f xs) here ∙ rest e

module _ (types : Table) (s : Contents) (c : CellId) where
  pub absent_lam : (id : TermId) (n : Node) (a : TypeId) (x : List ℕ) (body : TermId) → tree_of types s id ≡ node_tree types s n → n ≡ Lam a x body → (r : Bool) → (r ≡ true) ↔ IsAbsent types s c body → (r ≡ true) ↔ IsAbsent types s c id
  absent_lam id n a x body reads is r known =
      let e = reads ∙ ap (node_tree types s) is in
      (λ yes. ap (occurs (cell_variable types s c)) e ∙ known.0 yes, λ gone. known.1 (sym (ap (occurs (cell_variable types s c)) e) ∙ gone))

  other_head : (h : Head) → h ≢ Cell c → holds (variables_of_head (head_reading types s h)) (cell_variable types s c) ≡ false
  other_head (Const d) n = refl
  other_head (Logic l) n = refl
  other_head (Nominal k a) n = refl
  other_head (Index i) n = refl
  other_head (Cell d) n =
      let different : same_numbered (cell_variable types s d) (cell_variable types s c) ≡ false = false_from_ne_true _ (λ e.
      n (ap (λ (k : ℕ). Cell (record { 0 = k })) (ap (λ (v : Variable ℕ). v.name) ((same_numbered-Decides (cell_variable types s d) (cell_variable types s c)).0 e)))) in
      ap (λ b. b || false) different

  own_head : (h : Head) → h ≡ Cell c → (ts : Terms ℕ (List ℕ)) → occurs (cell_variable types s c) (spine (head_reading types s h) ts) ≡ true
  own_head h e ts =
      ap (λ g. occurs (cell_variable types s c) (spine (head_reading types s g) ts)) e
      ∙ ap (λ b. b || holds (variables_of_all ts) (cell_variable types s c)) ((same_numbered-Decides (cell_variable types s c) (cell_variable types s c)).1 refl)

  args_absent : (ts : List TermId) → All (IsAbsent types s c) ts → holds (variables_of_all (terms_of (map (tree_of types s) ts))) (cell_variable types s c) ≡ false
  args_absent [] all = refl
  args_absent (t ∷ ts) all =
      any_append (λ z. same_numbered z (cell_variable types s c)) (variables (tree_of types s t)) (variables_of_all (terms_of (map (tree_of types s) ts))) (All-head (IsAbsent types s c) t ts all)
      ∙ args_absent ts (All-tail (IsAbsent types s c) t ts all)

  absent_args : (ts : List TermId) → holds (variables_of_all (terms_of (map (tree_of types s) ts))) (cell_variable types s c) ≡ false → All (IsAbsent types s c) ts
  absent_args [] e = All-nil (IsAbsent types s c)
  absent_args (t ∷ ts) e =
      let front = any_front (λ z. same_numbered z (cell_variable types s c)) (variables (tree_of types s t)) (variables_of_all (terms_of (map (tree_of types s) ts))) e in
      All-cons (IsAbsent types s c) t ts front
      (absent_args ts (sym (any_append (λ z. same_numbered z (cell_variable types s c)) (variables (tree_of types s t)) (variables_of_all (terms_of (map (tree_of types s) ts))) front) ∙ e))

  pub absent_spine : (id : TermId) (n : Node) (h : Head) (ts : List TermId) → tree_of types s id ≡ node_tree types s n → n ≡ Spine h ts → h ≢ Cell c → IsAbsent types s c id ↔ All (IsAbsent types s c) ts
  absent_spine id n h ts reads is other =
      let e = reads ∙ ap (node_tree types s) is in
      let f : Variable ℕ → Bool = λ z. same_numbered z (cell_variable types s c) in
      let split = any_append f (variables_of_head (head_reading types s h)) (variables_of_all (terms_of (map (tree_of types s) ts))) (other_head h other) in
      (λ gone. absent_args ts (sym split ∙ sym (ap (occurs (cell_variable types s c)) e) ∙ gone), λ all. ap (occurs (cell_variable types s c)) e ∙ split ∙ args_absent ts all)

  pub stands_here : (id : TermId) (n : Node) (h : Head) (ts : List TermId) → tree_of types s id ≡ node_tree types s n → n ≡ Spine h ts → h ≡ Cell c → IsAbsent types s c id → ⊥
  stands_here id n h ts reads is one gone =
      let e = reads ∙ ap (node_tree types s) is in
      false≢true (sym gone ∙ ap (occurs (cell_variable types s c)) e ∙ own_head h one (terms_of (map (tree_of types s) ts)))

pub none_stand : (y : Variable ℕ) (t : Read) → variables t ≡ [] → occurs y t ≡ false
none_stand y t e = ap (λ l. holds l y) e

-- foreign names

pub stands_inside : (hs : List (tree.Head ℕ)) (depth i : ℕ) → i < depth → true ≡ may_stand (deep depth hs) (tree.index i)
stands_inside hs zero i l = absurd (omega (arith, l))
stands_inside hs (suc k) zero l = sym (innermost_stands (deep k hs))
stands_inside hs (suc k) (suc i) l = stands_inside hs k i (omega (arith, l)) ∙ sym (may_stand-under (deep k hs) (tree.index i))

pub stands_outside : (hs : List (tree.Head ℕ)) (depth i : ℕ) → depth ≤ i → may_stand (deep depth hs) (tree.index i) ≡ among hs (tree.index (i - depth))
stands_outside hs zero i l = ap (λ k. among hs (tree.index k)) (let e : i ≡ i - 0 = omega arith in e)
stands_outside hs (suc k) zero l = absurd (omega (arith, l))
stands_outside hs (suc k) (suc i) l = may_stand-under (deep k hs) (tree.index i) ∙ stands_outside hs k i (omega (arith, l)) ∙ ap (λ j. among hs (tree.index j)) (let e : i - k ≡ suc i - suc k = omega arith in e)

pub nominal_stands : (hs : List (tree.Head ℕ)) (depth : ℕ) (a : tree.Nominal) → may_stand (deep depth hs) (tree.nominal a) ≡ among hs (tree.nominal a)
nominal_stands hs zero a = refl
nominal_stands hs (suc k) a = may_stand-under (deep k hs) (tree.nominal a) ∙ nominal_stands hs k a

both_true : (a b : Bool) → (a && b) ≡ true → (a ≡ true) × (b ≡ true)
both_true true b e = (refl, e)
both_true false b e = absurd (false≢true e)

module _ (types : Table) (s : Contents) (cells : List CellId) (names : List Head) where
  pub own_lam : (depth below : ℕ) (id : TermId) (n : Node) (a : TypeId) (x : List ℕ) (body : TermId) → tree_of types s id ≡ node_tree types s n → n ≡ Lam a x body → below ≡ depth + 1
      → (r : Bool) → (r ≡ true) ↔ IsOwn types s cells names below body → (r ≡ true) ↔ IsOwn types s cells names depth id
  own_lam depth below id n a x body reads is one r known =
      let e = reads ∙ ap (node_tree types s) is in
      let under : below ≡ suc depth = omega (arith, one) in
      let there : (r ≡ true) ↔ IsOwn types s cells names (suc depth) body = subst (λ k. (r ≡ true) ↔ IsOwn types s cells names k body) under known in
      (λ yes. ap (no_foreign (map (cell_variable types s) cells) (deep depth (map (head_reading types s) names))) e ∙ there.0 yes, λ own. there.1 (sym (ap (no_foreign (map (cell_variable types s) cells) (deep depth (map (head_reading types s) names))) e) ∙ own))

  pub own_flexible : (depth : ℕ) (id : TermId) (n : Node) (h : Head) (ts : List TermId) → tree_of types s id ≡ node_tree types s n → n ≡ Spine h ts → true ≡ is_flexible (map (cell_variable types s) cells) (head_reading types s h) → IsOwn types s cells names depth id
  own_flexible depth id n h ts reads is flexible =
      ap (no_foreign (map (cell_variable types s) cells) (deep depth (map (head_reading types s) names))) (reads ∙ ap (node_tree types s) is)
      ∙ ap (λ b. b || (may_stand (deep depth (map (head_reading types s) names)) (head_reading types s h) && no_foreign_all (map (cell_variable types s) cells) (deep depth (map (head_reading types s) names)) (terms_of (map (tree_of types s) ts)))) (sym flexible)

  args_own : (depth : ℕ) (ts : List TermId) → All (IsOwn types s cells names depth) ts → no_foreign_all (map (cell_variable types s) cells) (deep depth (map (head_reading types s) names)) (terms_of (map (tree_of types s) ts)) ≡ true
  args_own depth [] all = refl
  args_own depth (t ∷ ts) all =
      ap (λ b. b && no_foreign_all (map (cell_variable types s) cells) (deep depth (map (head_reading types s) names)) (terms_of (map (tree_of types s) ts))) (All-head (IsOwn types s cells names depth) t ts all)
      ∙ args_own depth ts (All-tail (IsOwn types s cells names depth) t ts all)

  own_args : (depth : ℕ) (ts : List TermId) → no_foreign_all (map (cell_variable types s) cells) (deep depth (map (head_reading types s) names)) (terms_of (map (tree_of types s) ts)) ≡ true → All (IsOwn types s cells names depth) ts
  own_args depth [] e = All-nil (IsOwn types s cells names depth)
  own_args depth (t ∷ ts) e =
      let both = both_true _ _ e in
      All-cons (IsOwn types s cells names depth) t ts both.0 (own_args depth ts both.1)

  rigid_own : (depth : ℕ) (h : Head) (us : Terms ℕ (List ℕ)) → false ≡ is_flexible (map (cell_variable types s) cells) (head_reading types s h)
      → no_foreign (map (cell_variable types s) cells) (deep depth (map (head_reading types s) names)) (spine (head_reading types s h) us)
      ≡ (may_stand (deep depth (map (head_reading types s) names)) (head_reading types s h) && no_foreign_all (map (cell_variable types s) cells) (deep depth (map (head_reading types s) names)) us)
  rigid_own depth h us rigid = ap (λ b. b || (may_stand (deep depth (map (head_reading types s) names)) (head_reading types s h) && no_foreign_all (map (cell_variable types s) cells) (deep depth (map (head_reading types s) names)) us)) (sym rigid)

  pub own_spine : (depth : ℕ) (id : TermId) (n : Node) (h : Head) (ts : List TermId) → tree_of types s id ≡ node_tree types s n → n ≡ Spine h ts → false ≡ is_flexible (map (cell_variable types s) cells) (head_reading types s h)
      → true ≡ may_stand (deep depth (map (head_reading types s) names)) (head_reading types s h) → IsOwn types s cells names depth id ↔ All (IsOwn types s cells names depth) ts
  own_spine depth id n h ts reads is rigid may =
      let e = ap (no_foreign (map (cell_variable types s) cells) (deep depth (map (head_reading types s) names))) (reads ∙ ap (node_tree types s) is) ∙ rigid_own depth h (terms_of (map (tree_of types s) ts)) rigid in
      let f = ap (λ b. b && no_foreign_all (map (cell_variable types s) cells) (deep depth (map (head_reading types s) names)) (terms_of (map (tree_of types s) ts))) (sym may) in
      (λ own. own_args depth ts (sym (e ∙ f) ∙ own), λ all. e ∙ f ∙ args_own depth ts all)

  pub foreign_here : (depth : ℕ) (id : TermId) (n : Node) (h : Head) (ts : List TermId) → tree_of types s id ≡ node_tree types s n → n ≡ Spine h ts → false ≡ is_flexible (map (cell_variable types s) cells) (head_reading types s h)
      → false ≡ may_stand (deep depth (map (head_reading types s) names)) (head_reading types s h) → IsOwn types s cells names depth id → ⊥
  foreign_here depth id n h ts reads is rigid may own =
      let e = ap (no_foreign (map (cell_variable types s) cells) (deep depth (map (head_reading types s) names))) (reads ∙ ap (node_tree types s) is) ∙ rigid_own depth h (terms_of (map (tree_of types s) ts)) rigid in
      let f = ap (λ b. b && no_foreign_all (map (cell_variable types s) cells) (deep depth (map (head_reading types s) names)) (terms_of (map (tree_of types s) ts))) (sym may) in
      false≢true (sym (e ∙ f) ∙ own)
