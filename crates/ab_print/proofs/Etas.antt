-- Eta-long names, seen by the nodes of a store.
use Rattle.std.proofs.Common.{◌≡◌, ℕ, zero, suc, ◌+◌, ◌-◌, ◌<◌, List, ◌∷◌, map, Bool, true, ◌&&◌, None, refl, sym, ◌∙◌, ap, subst, add-one, arith}
use Rattle.std.specs.Prelude.{if◌then◌else◌}
use Rattle.std.specs.List.{All}
use Rattle.ab_term.specs.Types.{Ty}
use Rattle.ab_term.specs.Terms as tree
use Rattle.ab_term.specs.Terms.{Term, lam, spine, terms_of, Read}
use Rattle.ab_store.specs.ab_types.specs.Entries.{Table}
use Rattle.ab_store.specs.ab_types.specs.Ids.{type_of}
use Rattle.ab_store.specs.ab_types.specs.declared.ids.TypeId.{TypeId}
use Rattle.ab_store.specs.declared.node.TermId.{TermId}
use Rattle.ab_store.specs.declared.node.Head.{Head}
use Rattle.ab_store.specs.declared.node.Node.{Node}
use Rattle.ab_store.specs.declared.node.Node.TheVariants.{Lam, Spine}
use Rattle.ab_store.specs.Trees.{Contents, tree_of, head_reading, node_tree}
use Rattle.ab_store.specs.Naming.{NodeNames, HeadNames}
use Rattle.ab_print.specs.NameAssignment.{are_last, is_bound_name, alone, outside}

pub lam_name : (A : Ty) (x : List ℕ) (n k : ℕ) (t : Read) → is_bound_name (n + 1) (k + 1) t ≡ is_bound_name n k (lam A x t)
lam_name A x n k t = ap (λ (w : ℕ). is_bound_name w (k + 1) t) (add-one n) ∙ ap (λ (w : ℕ). is_bound_name (suc n) w t) (add-one k)

pub lam_alone : (A : Ty) (x : List ℕ) (n : ℕ) (t : Read) → alone (n + 1) t ≡ alone n (lam A x t)
lam_alone A x n t = ap (λ (w : ℕ). alone w t) (add-one n)

module _ (types : Table) (store : Contents) where
  pub lam_reads : (id : TermId) (n : Node) (a : TypeId) (x : List ℕ) (body : TermId) → tree_of types store id ≡ node_tree types store n → n ≡ Lam a x body
      → tree_of types store id ≡ lam (type_of types a) x (tree_of types store body)
  lam_reads id n a x body reads is = reads ∙ ap (node_tree types store) is

  pub spine_reads : (id : TermId) (n : Node) (h : Head) (args given : List TermId) → tree_of types store id ≡ node_tree types store n → n ≡ Spine h args → given ≡ args
      → tree_of types store id ≡ spine (head_reading types store h) (terms_of (map (tree_of types store) given))
  spine_reads id n h args given reads is same = reads ∙ ap (node_tree types store) is ∙ ap (λ (w : List TermId). spine (head_reading types store h) (terms_of (map (tree_of types store) w))) (sym same)

  -- one argument more
  pub last_more : (n : ℕ) (ids rest : List TermId) (first : TermId) (a b : Bool) → ids ≡ first ∷ rest → (n ≡ 0 → ⊥)
      → a ≡ is_bound_name 0 (n - 1) (tree_of types store first) → a ≡ true → b ≡ are_last (n - 1) (terms_of (map (tree_of types store) rest))
      → b ≡ are_last n (terms_of (map (tree_of types store) ids))
  last_more zero ids rest first a b e some_binder p q r = absurd (some_binder refl)
  last_more (suc n) ids rest first a b e some_binder p q r =
      let less : suc n - 1 ≡ n = omega arith in
      let here : is_bound_name 0 n (tree_of types store first) ≡ true = ap (λ (k : ℕ). is_bound_name 0 k (tree_of types store first)) (sym less) ∙ sym p ∙ q in
      r ∙ ap (λ (k : ℕ). are_last k (terms_of (map (tree_of types store) rest))) less
      ∙ ap (λ (w : Bool). w && are_last n (terms_of (map (tree_of types store) rest))) (sym here)
      ∙ ap (λ (w : List TermId). are_last (suc n) (terms_of (map (tree_of types store) w))) (sym e)

-- what a node of a head with arguments names
pub spine_names : (nodes cells : ℕ) (n : Node) (h : Head) (args : List TermId) → n ≡ Spine h args → NodeNames nodes cells n → HeadNames cells h × All (λ t. t.0 < nodes) args
spine_names nodes cells n h args is names = subst (NodeNames nodes cells) is names

module _ (types : Table) (store : Contents) where
  -- a head with its arguments, where it is known whether the head is the bound name
  pub bound_spine : (id : TermId) (n : Node) (h : Head) (args given : List TermId) (k binders : ℕ) (same_head : Bool) → tree_of types store id ≡ node_tree types store n → n ≡ Spine h args → given ≡ args
      → ((ts : tree.Terms ℕ (List ℕ)) → is_bound_name binders k (spine (head_reading types store h) ts) ≡ (same_head && are_last binders ts))
      → is_bound_name binders k (tree_of types store id) ≡ (same_head && are_last binders (terms_of (map (tree_of types store) given)))
  bound_spine id n h args given k binders same_head reads is same test =
      ap (is_bound_name binders k) (spine_reads types store id n h args given reads is same) ∙ test (terms_of (map (tree_of types store) given))

  pub alone_spine : (id : TermId) (n : Node) (h : Head) (args given : List TermId) (binders : ℕ) (b : Bool) → tree_of types store id ≡ node_tree types store n → n ≡ Spine h args → given ≡ args
      → b ≡ are_last binders (terms_of (map (tree_of types store) given)) → alone binders (tree_of types store id) ≡ (if b then (outside binders (head_reading types store h)) else None)
  alone_spine id n h args given binders b reads is same last =
      ap (alone binders) (spine_reads types store id n h args given reads is same)
      ∙ ap (λ (w : Bool). if w then (outside binders (head_reading types store h)) else None) (sym last)
