-- Terms in which some variables are given different names, part by part.
use Rattle.std.proofs.Common.{◌≡◌, ◌↔◌, ℕ, List, [], ◌∷◌, map, Bool, true, false, cond, ◌&&◌, Result, Ok, Err, OnOk, refl, sym, ◌∙◌, ap, subst}
use Rattle.std.specs.List.{All}
use Rattle.std.proofs.lemmas.List.Elements.{All-nil, All-cons, All-head, All-tail}
use Rattle.std.proofs.lemmas.Bool.{false≢true}
use Rattle.ab_term.specs.Terms as tree
use Rattle.ab_term.specs.Terms.{Variable, Term, Terms, lam, spine, no_terms, term, terms_of}
use Rattle.ab_term.specs.Variables.{variables}
use Rattle.ab_norm.specs.ab_types.specs.Entries.{Table}
use Rattle.ab_norm.specs.ab_types.specs.Ids.{type_of}
use Rattle.ab_norm.specs.ab_types.specs.declared.ids.TypeId.{TypeId}
use Rattle.ab_norm.specs.ab_store.specs.declared.node.TermId.{TermId}
use Rattle.ab_norm.specs.ab_store.specs.declared.node.CellId.{CellId}
use Rattle.ab_norm.specs.ab_store.specs.declared.node.Head.{Head}
use Rattle.ab_norm.specs.ab_store.specs.declared.node.Node.{Node}
use Rattle.ab_norm.specs.ab_store.specs.declared.node.Node.TheVariants.{Lam, Spine}
use Rattle.ab_norm.specs.ab_store.specs.Trees.{Contents, Holds, cell_in, tree_of, node_tree, head_reading}
use Rattle.ab_norm.specs.ab_store.specs.Reading.{cell_variable}
use Rattle.ab_norm.specs.ab_store.specs.Bindings.{IsUnbound, IsResolved}
use Rattle.ab_norm.specs.ab_store.specs.Growth.{IsExtendedBy}
use Rattle.ab_unifiers.specs.Replacements.{is_flexible, has_patterns, all_have_patterns}
use Rattle.ab_patterns.specs.declared.visited_nodes.Seen.{Seen}
use Rattle.ab_patterns.specs.ReadingWalks.{IsPatterned, AllPatterned, given_names}

-- what holds anyway
pub on_any : {T E P : Type 0} (r : Result T E) → P → OnOk r P
on_any (Ok v) p = p
on_any (Err e) p = tt

flexible_patterned : (ys : List (Variable ℕ)) (h : tree.Head ℕ) (ts : Terms ℕ (List ℕ)) → true ≡ is_flexible ys h → has_patterns ys (spine h ts) ≡ given_names h ts
flexible_patterned ys (tree.constant c) ts e = absurd (false≢true (sym e))
flexible_patterned ys (tree.logical l) ts e = absurd (false≢true (sym e))
flexible_patterned ys (tree.nominal a) ts e = absurd (false≢true (sym e))
flexible_patterned ys (tree.index i) ts e = absurd (false≢true (sym e))
flexible_patterned ys (tree.variable y) ts e = ap (λ b. cond b (given_names (tree.variable y) ts) (all_have_patterns ys ts)) (sym e)

rigid_patterned : (ys : List (Variable ℕ)) (h : tree.Head ℕ) (ts : Terms ℕ (List ℕ)) → false ≡ is_flexible ys h → has_patterns ys (spine h ts) ≡ all_have_patterns ys ts
rigid_patterned ys (tree.constant c) ts e = refl
rigid_patterned ys (tree.logical l) ts e = refl
rigid_patterned ys (tree.nominal a) ts e = refl
rigid_patterned ys (tree.index i) ts e = refl
rigid_patterned ys (tree.variable y) ts e = ap (λ b. cond b (given_names (tree.variable y) ts) (all_have_patterns ys ts)) (sym e)

both_true : (a b : Bool) → (a && b) ≡ true → (a ≡ true) × (b ≡ true)
both_true true b e = (refl, e)
both_true false b e = absurd (false≢true e)

pub body_resolved : (s : Contents) (id : TermId) (n : Node) (a : TypeId) (x : List ℕ) (body : TermId) → ((types : Table) → tree_of types s id ≡ node_tree types s n) → n ≡ Lam a x body → IsResolved s id → IsResolved s body
body_resolved s id n a x body reads is clear =
    subst (λ t. All (IsUnbound s) (map (λ (v : Variable ℕ). record { 0 = v.name }) (variables t))) (reads [] ∙ ap (node_tree [] s) is) clear

module _ (types : Table) (s : Contents) (cells : List CellId) where
  pub patterned_lam : (id : TermId) (n : Node) (a : TypeId) (x : List ℕ) (body : TermId) → tree_of types s id ≡ node_tree types s n → n ≡ Lam a x body
      → (r : Bool) → (r ≡ true) ↔ IsPatterned types s cells body → (r ≡ true) ↔ IsPatterned types s cells id
  patterned_lam id n a x body reads is r known =
      let e = ap (has_patterns (map (cell_variable types s) cells)) (reads ∙ ap (node_tree types s) is) in
      (λ yes. e ∙ known.0 yes, λ all. known.1 (sym e ∙ all))

  pub patterned_flexible : (id : TermId) (n : Node) (h : Head) (given ts : List TermId) → tree_of types s id ≡ node_tree types s n → n ≡ Spine h ts → given ≡ ts → true ≡ is_flexible (map (cell_variable types s) cells) (head_reading types s h)
      → (r : Bool) → r ≡ given_names (head_reading types s h) (terms_of (map (tree_of types s) given)) → (r ≡ true) ↔ IsPatterned types s cells id
  patterned_flexible id n h given ts reads is same flexible r known =
      let e = ap (has_patterns (map (cell_variable types s) cells)) (reads ∙ ap (node_tree types s) is) ∙ flexible_patterned (map (cell_variable types s) cells) (head_reading types s h) (terms_of (map (tree_of types s) ts)) flexible
      ∙ ap (λ us. given_names (head_reading types s h) (terms_of (map (tree_of types s) us))) (sym same) ∙ sym known in
      (λ yes. e ∙ yes, λ all. sym e ∙ all)

  args_patterned : (ts : List TermId) → All (IsPatterned types s cells) ts → all_have_patterns (map (cell_variable types s) cells) (terms_of (map (tree_of types s) ts)) ≡ true
  args_patterned [] all = refl
  args_patterned (t ∷ ts) all =
      ap (λ b. b && all_have_patterns (map (cell_variable types s) cells) (terms_of (map (tree_of types s) ts))) (All-head (IsPatterned types s cells) t ts all)
      ∙ args_patterned ts (All-tail (IsPatterned types s cells) t ts all)

  patterned_args : (ts : List TermId) → all_have_patterns (map (cell_variable types s) cells) (terms_of (map (tree_of types s) ts)) ≡ true → All (IsPatterned types s cells) ts
  patterned_args [] e = All-nil (IsPatterned types s cells)
  patterned_args (t ∷ ts) e =
      let both = both_true _ _ e in
      All-cons (IsPatterned types s cells) t ts both.0 (patterned_args ts both.1)

  pub patterned_spine : (id : TermId) (n : Node) (h : Head) (given ts : List TermId) → tree_of types s id ≡ node_tree types s n → n ≡ Spine h ts → given ≡ ts → false ≡ is_flexible (map (cell_variable types s) cells) (head_reading types s h)
      → (r : Bool) → (r ≡ true) ↔ All (IsPatterned types s cells) given → (r ≡ true) ↔ IsPatterned types s cells id
  patterned_spine id n h given ts reads is same rigid r known =
      let e = ap (has_patterns (map (cell_variable types s) cells)) (reads ∙ ap (node_tree types s) is) ∙ rigid_patterned (map (cell_variable types s) cells) (head_reading types s h) (terms_of (map (tree_of types s) ts)) rigid in
      (λ yes. e ∙ args_patterned ts (subst (All (IsPatterned types s cells)) same (known.0 yes)), λ all. known.1 (subst (All (IsPatterned types s cells)) (sym same) (patterned_args ts (sym e ∙ all))))

-- in a store that has got more terms
module _ (types : Table) (s t : Contents) (more : IsExtendedBy s t) (cells_stay : t.cells ≡ s.cells) (cells : List CellId) where
  same_patterns : (id : TermId) → Holds s id → has_patterns (map (cell_variable types t) cells) (tree_of types t id) ≡ has_patterns (map (cell_variable types s) cells) (tree_of types s id)
  same_patterns id held =
      ap (λ cs. has_patterns (map (λ (c : CellId). record { name = c.0; type = type_of types (cell_in cs c).ty }) cells) (tree_of types t id)) cells_stay
      ∙ ap (has_patterns (map (cell_variable types s) cells)) (more.trees types id held)

  pub patterned_before : (id : TermId) → Holds s id → (r : Bool) → (r ≡ true) ↔ IsPatterned types t cells id → (r ≡ true) ↔ IsPatterned types s cells id
  patterned_before id held r known = (λ yes. sym (same_patterns id held) ∙ known.0 yes, λ all. known.1 (same_patterns id held ∙ all))

  pub still_patterned : (id : TermId) → Holds s id → IsPatterned types s cells id → Holds t id × IsPatterned types t cells id
  still_patterned id held all = (more.ids id held, same_patterns id held ∙ all)

  pub all_patterned_on : (seen : Seen) → AllPatterned types s cells seen → AllPatterned types t cells seen
  all_patterned_on seen known id k e =
      let here = known id k e in
      still_patterned id here.0 here.1
