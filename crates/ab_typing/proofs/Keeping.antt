-- Where variables keep names of a prefix out of their arguments, node by node.
use Rattle.std.proofs.Common.{◌≡◌, ◌↔◌, ℕ, suc, ◌+◌, List, [], ◌∷◌, map, Bool, true, arith, sym, ap, ◌∙◌, subst}
use Rattle.std.specs.List.{All}
use Rattle.std.proofs.lemmas.List.Elements.{All-nil, All-cons, All-head, All-tail}
use Rattle.ab_term.specs.Terms.{terms_of, Read}
use Rattle.ab_store.specs.ab_types.specs.Entries.{Table}
use Rattle.ab_store.specs.ab_types.specs.declared.ids.TypeId.{TypeId}
use Rattle.ab_store.specs.declared.node.TermId.{TermId}
use Rattle.ab_store.specs.declared.node.Head.{Head}
use Rattle.ab_store.specs.declared.node.Node.{Node}
use Rattle.ab_store.specs.declared.node.Node.TheVariants.{Lam, Spine}
use Rattle.ab_store.specs.Trees.{Contents, tree_of, head_reading, node_tree}
use Rattle.ab_formulas.specs.Heads.{Place, KeepsNames, AllKeepNames, IsNoPrefixName, place_under}

pub all_keep : (p : Place) (k : ℕ) (f : TermId → Read) (ts : List TermId) → All (λ t. KeepsNames p k (f t)) ts → AllKeepNames p k (terms_of (map f ts))
all_keep p k f [] h = tt
all_keep p k f (t ∷ ts) h = (All-head (λ t. KeepsNames p k (f t)) t ts h, all_keep p k f ts (All-tail (λ t. KeepsNames p k (f t)) t ts h))

pub each_keeps : (p : Place) (k : ℕ) (f : TermId → Read) (ts : List TermId) → AllKeepNames p k (terms_of (map f ts)) → All (λ t. KeepsNames p k (f t)) ts
each_keeps p k f [] h = All-nil (λ t. KeepsNames p k (f t))
each_keeps p k f (t ∷ ts) h = All-cons (λ t. KeepsNames p k (f t)) t ts h.0 (each_keeps p k f ts h.1)

module _ (types : Table) (s : Contents) (t : TermId) (n : Node) (reads : tree_of types s t ≡ node_tree types s n) (p : Place) (k : ℕ) where
  pub keeps_lam : (ty : TypeId) (x : List ℕ) (body : TermId) (j : ℕ) (r : Bool) → n ≡ Lam ty x body → j ≡ k + 1
      → (r ≡ true) ↔ KeepsNames p j (tree_of types s body) → (r ≡ true) ↔ KeepsNames p k (tree_of types s t)
  keeps_lam ty x body j r is one h =
      let next : j ≡ suc k = omega (arith, one) in
      subst (λ u. (r ≡ true) ↔ KeepsNames p k u) (sym (reads ∙ ap (node_tree types s) is))
      (subst (λ m. (r ≡ true) ↔ KeepsNames p m (tree_of types s body)) next h)

  pub prefix_name : (h : Head) (ts : List TermId) → n ≡ Spine h ts → KeepsNames p k (tree_of types s t) → IsNoPrefixName p k (head_reading types s h)
  prefix_name h ts is w = (subst (KeepsNames p k) (reads ∙ ap (node_tree types s) is) w).0

  pub keeps_spine : (h : Head) (ts given : List TermId) (q : Place) (r : Bool) → n ≡ Spine h ts → given ≡ ts
      → IsNoPrefixName p k (head_reading types s h) → q ≡ place_under p (head_reading types s h)
      → (r ≡ true) ↔ All (λ t. KeepsNames q k (tree_of types s t)) given
      → (r ≡ true) ↔ KeepsNames p k (tree_of types s t)
  keeps_spine h ts given q r is same own place all =
      subst (λ u. (r ≡ true) ↔ KeepsNames p k u) (sym (reads ∙ ap (node_tree types s) is)) (
        λ e. (own, subst (λ z. AllKeepNames z k (terms_of (map (tree_of types s) ts))) place (all_keep q k (tree_of types s) ts (subst (All (λ t. KeepsNames q k (tree_of types s t))) same (all.0 e)))),
        λ w. all.1 (subst (All (λ t. KeepsNames q k (tree_of types s t))) (sym same) (each_keeps q k (tree_of types s) ts (subst (λ z. AllKeepNames z k (terms_of (map (tree_of types s) ts))) (sym place) w.1))),
      )
