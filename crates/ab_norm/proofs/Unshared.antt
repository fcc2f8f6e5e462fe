-- What a tree of a head with arguments stands for.
use Rattle.std.proofs.Common.{◌≡◌, ℕ, List, [], ◌∷◌, ◌++◌, Box, Global, ◌+◌, ◌<◌, map, take, length, get_or, sym, ◌∙◌, ap, subst}
use Rattle.std.specs.List.{All, flat_map}
use Rattle.std.proofs.lemmas.List.Elements.{All-nil, All-cons, All-head, All-tail, All-append, All-weaker}
use Rattle.std.proofs.lemmas.List.Concat.{flat_map-cons}
use Rattle.std.proofs.lemmas.List.{map_more, map-append}
use Rattle.ab_term.specs.Terms.{spine, terms_of, Read}
use Rattle.ab_store.specs.ab_types.specs.Entries.{Table}
use Rattle.ab_store.specs.ab_types.specs.declared.ids.TypeId.{TypeId}
use Rattle.ab_store.specs.ab_types.specs.Ids.{HoldsType}
use Rattle.ab_store.specs.declared.node.TermId.{TermId}
use Rattle.ab_store.specs.declared.node.Head.{Head}
use Rattle.ab_store.specs.declared.node.Node.{Node}
use Rattle.ab_store.specs.declared.node.Node.TheVariants.{Spine}
use Rattle.ab_store.specs.Trees.{Contents, tree_of, head_reading, node_tree}
use Rattle.ab_store.specs.Naming.{HoldsHead, HeadIsTyped}
use Rattle.ab_norm.specs.declared.items.Items.{Items}
use Rattle.ab_norm.specs.Items.{list_of}
use Rattle.ab_norm.specs.declared.tree.Tree.{Tree}
use Rattle.ab_norm.specs.declared.tree.Tree.TheViews as views
use Rattle.ab_norm.specs.declared.tree.Tree.TheVariants.{rolls-Lam, rolls-Spine}
use Rattle.ab_norm.specs.declared.tree.Tree.TheFolds.{fold-roll-Tree}
use Rattle.ab_norm.specs.NodeTrees.{tree_step, tree_reading, types_step, binder_types, heads_step, heads, HoldsTree}

pub spine_tree : (types : Table) (s : Contents) (h : Head) (v : Items Tree) → tree_reading types s (views.Spine h v) ≡ spine (head_reading types s h) (terms_of (map (tree_reading types s) (list_of v)))
spine_tree types s h v = ap (tree_reading types s) (sym (rolls-Spine h v)) ∙ fold-roll-Tree Read (tree_step types s) _

pub unshared : (types : Table) (s : Contents) (t : TermId) (n : Node) (h : Head) (v : Items Tree) (args given : List TermId)
    → tree_of types s t ≡ node_tree types s n → n ≡ Spine h args → given ≡ args
    → map (tree_reading types s) (list_of v) ≡ map (tree_of types s) given
    → tree_reading types s (views.Spine h v) ≡ tree_of types s t
unshared types s t n h v args given reads is same trees =
    spine_tree types s h v
    ∙ ap (λ l. spine (head_reading types s h) (terms_of l)) (trees ∙ ap (map (tree_of types s)) same)
    ∙ sym (reads ∙ ap (node_tree types s) is)

-- one more of a list
pub one_more_read : (types : Table) (s : Contents) (ids : List TermId) (done more : List Tree) (i : ℕ) (d : TermId) (r : Tree)
    → map (tree_reading types s) done ≡ map (tree_of types s) (take i ids) → tree_reading types s r ≡ tree_of types s (get_or ids i d) → i < length ids → more ≡ done ++ r ∷ []
    → map (tree_reading types s) more ≡ map (tree_of types s) (take (i + 1) ids)
one_more_read types s ids done more i d r before here l push =
    ap (map (tree_reading types s)) push
    ∙ map-append (tree_reading types s) done (r ∷ [])
    ∙ ap (λ l. l ++ tree_reading types s r ∷ []) before
    ∙ ap (λ x. map (tree_of types s) (take i ids) ++ x ∷ []) here
    ∙ sym (map_more (tree_of types s) ids i d l)

-- what stands in a tree of parts

all_flat : {X : Type 0} (P : X → Type 0) (f : Tree → List X) (vs : List Tree) → All (λ v. All P (f v)) vs → All P (flat_map (λ l. l) (map f vs))
all_flat P f [] all = All-nil P
all_flat P f (v ∷ vs) all =
    subst (All P) (sym (flat_map-cons (λ l. l) (f v) (map f vs)))
    (All-append P (f v) (flat_map (λ l. l) (map f vs)) (All-head (λ v. All P (f v)) v vs all) (all_flat P f vs (All-tail (λ v. All P (f v)) v vs all)))

types_lam : (a : TypeId) (x : List ℕ) (b : Box Tree Global) → binder_types (views.Lam a x b) ≡ a ∷ binder_types b.value
types_lam a x b = ap binder_types (sym (rolls-Lam a x b)) ∙ fold-roll-Tree (List TypeId) types_step _

types_spine : (h : Head) (v : Items Tree) → binder_types (views.Spine h v) ≡ flat_map (λ l. l) (map binder_types (list_of v))
types_spine h v = ap binder_types (sym (rolls-Spine h v)) ∙ fold-roll-Tree (List TypeId) types_step _

heads_lam : (a : TypeId) (x : List ℕ) (b : Box Tree Global) → heads (views.Lam a x b) ≡ heads b.value
heads_lam a x b = ap heads (sym (rolls-Lam a x b)) ∙ fold-roll-Tree (List Head) heads_step _

heads_spine : (h : Head) (v : Items Tree) → heads (views.Spine h v) ≡ h ∷ flat_map (λ l. l) (map heads (list_of v))
heads_spine h v = ap heads (sym (rolls-Spine h v)) ∙ fold-roll-Tree (List Head) heads_step _

module _ (types : Table) (s : Contents) where
  pub lam_held : (a : TypeId) (x : List ℕ) (b : Box Tree Global) → HoldsType types a → HoldsTree types s b.value → HoldsTree types s (views.Lam a x b)
  lam_held a x b ty body = record {
    binders = subst (All (HoldsType types)) (sym (types_lam a x b)) (All-cons (HoldsType types) a (binder_types b.value) ty body.binders);
    constants = subst (All (HeadIsTyped types)) (sym (heads_lam a x b)) body.constants;
    cells = subst (All (HoldsHead s)) (sym (heads_lam a x b)) body.cells;
  }

  pub spine_held : (h : Head) (v : Items Tree) → HeadIsTyped types h → HoldsHead s h → All (HoldsTree types s) (list_of v) → HoldsTree types s (views.Spine h v)
  spine_held h v typed there all = record {
    binders = subst (All (HoldsType types)) (sym (types_spine h v)) (all_flat (HoldsType types) binder_types (list_of v) (All-weaker (HoldsTree types s) (λ t. All (HoldsType types) (binder_types t)) (λ t h. h.binders) (list_of v) all));
    constants = subst (All (HeadIsTyped types)) (sym (heads_spine h v))
        (All-cons (HeadIsTyped types) h _ typed (all_flat (HeadIsTyped types) heads (list_of v) (All-weaker (HoldsTree types s) (λ t. All (HeadIsTyped types) (heads t)) (λ t h. h.constants) (list_of v) all)));
    cells = subst (All (HoldsHead s)) (sym (heads_spine h v))
        (All-cons (HoldsHead s) h _ there (all_flat (HoldsHead s) heads (list_of v) (All-weaker (HoldsTree types s) (λ t. All (HoldsHead s) (heads t)) (λ t h. h.cells) (list_of v) all)));
  }

  -- in a store with the same cells
  pub same_cells_read : (b : Contents) → b.cells ≡ s.cells → (t : Tree) → tree_reading types b t ≡ tree_reading types s t
  same_cells_read b e t = ap (λ cs. tree_reading types (record { nodes = []; cells = cs; bindings = []; room = 0 }) t) e

  pub same_cells_held : (b : Contents) → b.cells ≡ s.cells → (t : Tree) → HoldsTree types b t → HoldsTree types s t
  same_cells_held b e t held = record {
    binders = held.binders;
    constants = held.constants;
    cells = subst (λ cs. All (HoldsHead (record { nodes = []; cells = cs; bindings = []; room = 0 })) (heads t)) e held.cells;
  }
