-- The variables of what a term reads as are cells of its store.
use Rattle.std.proofs.Common.{◌≡◌, ℕ, zero, suc, ◌<◌, List, [], ◌∷◌, map, length, get_or, Bool, true, false, cond, Some, sym, subst, arith}
use Rattle.std.specs.Prelude.{All}
use Rattle.std.proofs.lemmas.List.Elements.{All-nil, All-cons, All-head, All-tail, All-map, All-weaker}
use Rattle.ab_term.specs.Terms as tree
use Rattle.ab_term.specs.Terms.{Variable, Term, terms_of, Read}
use Rattle.ab_term.specs.Variables.{Substitution, variables, value_in, image, one_by_one}
use Rattle.ab_term.specs.Sameness.{same_numbered, same_number}
use Rattle.ab_term.proofs.Standing.{HeadHas, Has, AllHave, image_by_has}
use Rattle.ab_term.proofs.Stands.{Either, has_variables}
use Rattle.ab_norm.specs.ab_types.specs.Entries.{Table}
use Rattle.ab_norm.specs.ab_store.specs.declared.node.TermId.{TermId}
use Rattle.ab_norm.specs.ab_store.specs.declared.node.Head.{Head}
use Rattle.ab_norm.specs.ab_store.specs.declared.node.Head.TheVariants.{Const, Logic, Nominal, Cell, Index}
use Rattle.ab_norm.specs.ab_store.specs.declared.node.Node.{Node}
use Rattle.ab_norm.specs.ab_store.specs.declared.node.Node.TheVariants.{Lam, Spine}
use Rattle.ab_norm.specs.ab_store.specs.Trees.{Contents, Holds, head_in, tree_of, node_tree}
use Rattle.ab_norm.specs.ab_store.specs.Reading.{pairs, reading}
use Rattle.ab_norm.specs.ab_store.specs.Naming.{HeadNames, NodeNames, BindingIsTyped, IsTypedBy}
use Rattle.ab_norm.specs.ab_store.proofs.Nodes.{terms_from-at}
use Rattle.ab_norm.specs.ab_store.proofs.Putting.{pair}
use Rattle.ab_patterns.specs.ab_unifiers.specs.Unifiers.{IsOver}
use Rattle.ab_patterns.specs.ab_unifiers.proofs.Falling.{map_length}
use Rattle.ab_patterns.proofs.Standing.{holds_contains}
use Rattle.ab_unify.specs.Problem.{cell_read, cells_read}

-- a variable with the number of one of the first n cells
abbrev Low : ℕ → tree.Head ℕ → Type 0
Low n = Either (λ a. Unit {0}) (λ y. y.name < n)

value_low : (n : ℕ) (s : Substitution ℕ (List ℕ)) → All (λ p. Has (Low n) p.1) s → (y : Variable ℕ) (u : Read) → value_in same_number s y ≡ Some u → Has (Low n) u
value_low n [] all y u e = absurd (cc)
value_low n (p ∷ s) all y u e = go (same_numbered p.0 y) e (value_low n s (All-tail (λ p. Has (Low n) p.1) p s all) y u)
  where
    go : (b : Bool) → cond b (Some p.1) (value_in same_number s y) ≡ Some u → (value_in same_number s y ≡ Some u → Has (Low n) u) → Has (Low n) u
    go true e rest = let equal : p.1 ≡ u = cc in subst (Has (Low n)) equal (All-head (λ p. Has (Low n) p.1) p s all)
    go false e rest = rest e

image_low : (n : ℕ) (s : Substitution ℕ (List ℕ)) → All (λ p. Has (Low n) p.1) s → (t : Read) → Has (Low n) t → Has (Low n) (image same_number s t)
image_low n s all t h =
    image_by_has (Low n) (Low n) (value_in same_number s)
    (record { constants = λ c q. tt; logicals = λ l q. tt; nominals = λ a q. tt; stays = λ y e q. q; values = λ y u e q. value_low n s all y u e }) t h

one_by_one_low : (n : ℕ) (s : Substitution ℕ (List ℕ)) → All (λ p. Has (Low n) p.1) s → (t : Read) → Has (Low n) t → Has (Low n) (one_by_one same_number s t)
one_by_one_low n [] all t h = h
one_by_one_low n (p ∷ s) all t h =
    one_by_one_low n s (All-tail (λ p. Has (Low n) p.1) p s all) (image same_number (p ∷ []) t)
    (image_low n (p ∷ []) (All-cons (λ p. Has (Low n) p.1) p [] (All-head (λ p. Has (Low n) p.1) p s all) (All-nil (λ p. Has (Low n) p.1))) t h)

module _ (types : Table) (store : Contents) (typed : IsTypedBy types store) where
  abbrev count : ℕ
  count = length store.cells

  head_low : (h : Head) → HeadNames count h → HeadHas (Low count) (head_in types store.cells h)
  head_low (Const c) l = tt
  head_low (Logic c) l = tt
  head_low (Nominal i a) l = tt
  head_low (Cell c) l = l
  head_low (Index i) l = tt

  all_low : (j : ℕ) → ((t : TermId) → t.0 < j → Has (Low count) (tree_of types store t)) → (ts : List TermId) → All (λ (t : TermId). t.0 < j) ts → AllHave (Low count) (terms_of (map (tree_of types store) ts))
  all_low j below [] all = tt
  all_low j below (t ∷ ts) all = (below t (All-head (λ (t : TermId). t.0 < j) t ts all), all_low j below ts (All-tail (λ (t : TermId). t.0 < j) t ts all))

  node_low : (j : ℕ) → ((t : TermId) → t.0 < j → Has (Low count) (tree_of types store t)) → (n : Node) → NodeNames j count n → Has (Low count) (node_tree types store n)
  node_low j below (Lam a x t) names = below t names
  node_low j below (Spine h ts) names = (head_low h names.0, all_low j below ts names.1)

  trees_low : (fuel : ℕ) (t : TermId) → t.0 < fuel → Holds store t → Has (Low count) (tree_of types store t)
  trees_low zero t l h = absurd (omega (arith, l))
  trees_low (suc fuel) t l h =
      let d : Node = Spine (Index 0) [] in
      subst (Has (Low count)) (sym (terms_from-at types store.cells count store.nodes t d typed.earlier h))
      (node_low t.0 (λ r m. trees_low fuel r (omega (arith, l, m)) (omega (arith, h, m))) (get_or store.nodes t.0 d) (typed.earlier t.0 d h))

  reads_low : (t : TermId) → Holds store t → Has (Low count) (reading types store t)
  reads_low t h =
      one_by_one_low count (pairs types store)
      (All-map (λ p. Has (Low count) p.1) (pair types store) store.bindings
      (All-weaker (BindingIsTyped types store) (λ b. Has (Low count) (tree_of types store b.term)) (λ b is. trees_low (suc b.term.0) b.term (omega arith) is.1.0) store.bindings typed.bindings))
      (tree_of types store t) (trees_low (suc t.0) t (omega arith) h)

  pub reads_over : (t : TermId) → Holds store t → IsOver (cells_read types store) (reading types store t)
  reads_over t h y held =
      let low : y.name < count = has_variables (λ a. Unit {0}) (λ y. y.name < count) (reading types store t) (reads_low t h) y (holds_contains (variables (reading types store t)) y held) in
      subst (λ n. y.name < n) (sym (map_length (cell_read types) store.cells)) low
