-- What the nodes that `close_names` makes read as.
use Rattle.std.proofs.Common.{◌≡◌, ℕ, zero, suc, ◌+◌, ◌<◌, ◌≤◌, List, [], ◌∷◌, map, length, cond, refl, sym, ◌∙◌, ap, arith}
use Rattle.ab_term.proofs.Same.{same_head-Decides}
use Rattle.ab_term.specs.Types.{Ty}
use Rattle.ab_term.specs.Terms.{lam, spine, term, terms_of, Read}
use Rattle.ab_term.specs.Terms as tree
use Rattle.ab_term.specs.Substitution.{shift_index, shift_head}
use Rattle.ab_norm.specs.ab_types.specs.Entries.{Table}
use Rattle.ab_norm.specs.ab_types.specs.Ids.{type_of}
use Rattle.ab_norm.specs.ab_types.specs.declared.ids.TypeId.{TypeId}
use Rattle.ab_norm.specs.ab_store.specs.declared.node.TermId.{TermId}
use Rattle.ab_norm.specs.ab_store.specs.declared.node.Head.{Head}
use Rattle.ab_norm.specs.ab_store.specs.declared.node.Node.{Node}
use Rattle.ab_norm.specs.ab_store.specs.declared.node.Node.TheVariants.{Lam, Spine}
use Rattle.ab_norm.specs.ab_store.specs.Trees.{Contents, tree_of, head_in, head_reading, node_tree}
use Rattle.ab_term.specs.Abstraction as closing
use Rattle.ab_patterns.specs.Abstraction.{sunk, close_names, close_head_names}

pub sunk_none : (h : tree.Head ℕ) → sunk zero h ≡ h
sunk_none (tree.constant k) = refl
sunk_none (tree.logical l) = refl
sunk_none (tree.nominal a) = refl
sunk_none (tree.variable y) = refl
sunk_none (tree.index i) = let e : i + 0 ≡ i = omega arith in ap tree.index e

sunk_more : (k : ℕ) (h : tree.Head ℕ) → sunk (suc k) h ≡ shift_head zero (sunk k h)
sunk_more k (tree.constant j) = refl
sunk_more k (tree.logical l) = refl
sunk_more k (tree.nominal a) = refl
sunk_more k (tree.variable y) = refl
sunk_more k (tree.index i) = let e : i + suc k ≡ suc (i + k) = omega arith in ap tree.index e

pub close_all_read : (at : ℕ) (h : tree.Head ℕ) (f : TermId → Read) (ts : List TermId) → closing.close_all at h (terms_of (map f ts)) ≡ terms_of (map (λ t. closing.close at h (f t)) ts)
close_all_read at h f [] = refl
close_all_read at h f (t ∷ ts) = ap (term (closing.close at h (f t))) (close_all_read at h f ts)

-- part by part

close_names_lam : (k : ℕ) (hs : List (tree.Head ℕ)) (A : Ty) (x : List ℕ) (t : Read) → close_names k hs (lam A x t) ≡ lam A x (close_names (suc k) hs t)
close_names_lam k [] A x t = refl
close_names_lam k (h ∷ hs) A x t =
    let m = k + length hs in
    let same : suc (k + length hs) ≡ suc k + length hs = omega arith in
    ap (closing.close m (sunk m h)) (close_names_lam k hs A x t)
    ∙ ap (λ g. lam A x (closing.close (suc m) g (close_names (suc k) hs t))) (sym (sunk_more m h))
    ∙ ap (λ j. lam A x (closing.close j (sunk j h) (close_names (suc k) hs t))) same

close_names_spine : (k : ℕ) (hs : List (tree.Head ℕ)) (g : tree.Head ℕ) (f : TermId → Read) (ts : List TermId)
    → close_names k hs (spine g (terms_of (map f ts))) ≡ spine (close_head_names k hs g) (terms_of (map (λ t. close_names k hs (f t)) ts))
close_names_spine k [] g f ts = refl
close_names_spine k (h ∷ hs) g f ts =
    let m = k + length hs in
    ap (closing.close m (sunk m h)) (close_names_spine k hs g f ts)
    ∙ ap (spine (close_head_names k (h ∷ hs) g)) (close_all_read m (sunk m h) (λ t. close_names k hs (f t)) ts)

pub names_on : (types : Table) (s t : Contents) (names : List Head) → t.cells ≡ s.cells → map (head_reading types t) names ≡ map (head_reading types s) names
names_on types s t names same = ap (λ cs. map (head_in types cs) names) same

module _ (types : Table) (s0 s1 s2 : Contents) (t r : TermId) (n : Node) (reads : tree_of types s0 t ≡ node_tree types s0 n) (at : ℕ) (names : List Head) where
  abbrev these : List (tree.Head ℕ)
  these = map (head_reading types s0) names

  pub closed_lam : (deeper : ℕ) (ty : TypeId) (x : List ℕ) (body inner : TermId) → n ≡ Lam ty x body → deeper ≡ at + 1
      → tree_of types s1 inner ≡ close_names deeper these (tree_of types s0 body)
      → tree_of types s2 r ≡ lam (type_of types ty) x (tree_of types s1 inner)
      → tree_of types s2 r ≡ close_names at these (tree_of types s0 t)
  closed_lam deeper ty x body inner is one here made =
      let d : deeper ≡ suc at = omega (arith, one) in
      made
      ∙ ap (lam (type_of types ty) x) (here ∙ ap (λ k. close_names k these (tree_of types s0 body)) d)
      ∙ sym (close_names_lam at these (type_of types ty) x (tree_of types s0 body))
      ∙ sym (ap (close_names at these) (reads ∙ ap (node_tree types s0) is))

  pub closed_spine : (h g : Head) (args given closed : List TermId) → n ≡ Spine h args → s1.cells ≡ s0.cells → given ≡ args
      → head_reading types s1 g ≡ close_head_names at (map (head_reading types s1) names) (head_reading types s1 h)
      → map (tree_of types s1) closed ≡ map (λ t. close_names at these (tree_of types s0 t)) given
      → tree_of types s2 r ≡ spine (head_reading types s1 g) (terms_of (map (tree_of types s1) closed))
      → tree_of types s2 r ≡ close_names at these (tree_of types s0 t)
  closed_spine h g args given closed is grown same head here made =
      made
      ∙ ap (λ x. spine x (terms_of (map (tree_of types s1) closed)))
      (head ∙ ap (λ hs. close_head_names at hs (head_reading types s1 h)) (names_on types s0 s1 names grown) ∙ ap (λ es. close_head_names at these (head_in types es h)) grown)
      ∙ ap (λ l. spine (close_head_names at these (head_reading types s0 h)) (terms_of l)) (here ∙ ap (map (λ t. close_names at these (tree_of types s0 t))) same)
      ∙ sym (close_names_spine at these (head_reading types s0 h) (tree_of types s0) args)
      ∙ sym (ap (close_names at these) (reads ∙ ap (node_tree types s0) is))

pub shift_index-below : (k i : ℕ) → i < k → i ≡ shift_index k i
shift_index-below zero i l = absurd (omega (arith, l))
shift_index-below (suc k) zero l = refl
shift_index-below (suc k) (suc i) l = ap suc (shift_index-below k i (omega (arith, l)))

pub shift_index-from : (k i n : ℕ) → k ≤ i → n ≡ i + 1 → n ≡ shift_index k i
shift_index-from zero i n l e = omega (arith, e)
shift_index-from (suc k) zero n l e = absurd (omega (arith, l))
shift_index-from (suc k) (suc i) n l e = let e2 : n ≡ suc (suc i) = omega (arith, e) in e2 ∙ ap suc (shift_index-from k i (suc i) (omega (arith, l)) (omega arith))

module _ (types : Table) (store : Contents) (at : ℕ) (name h : Head) where
  pub closed_same : h ≡ name → tree.index at ≡ closing.close_head at (head_reading types store name) (head_reading types store h)
  closed_same e = sym (ap (λ b. cond b (tree.index at) (shift_head at (head_reading types store h))) ((same_head-Decides (head_reading types store h) (head_reading types store name)).1 (ap (head_reading types store) e)))
