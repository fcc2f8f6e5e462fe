-- Whether a head is among others: the first and the rest.
use Rattle.std.proofs.Common.{◌≡◌, ◌≢◌, ℕ, suc, ◌+◌, ◌-◌, ◌<◌, ◌≤◌, List, [], ◌∷◌, map, take, drop, length, get_or, true, false, ◌||◌, slice_index_or, codes, sym, ◌∙◌, ap, arith, take_all}
use Rattle.std.specs.List.{All}
use Rattle.std.proofs.lemmas.List.{at_drop_more}
use Rattle.std.proofs.lemmas.Bool.{or_left, false_from_ne_true}
use Rattle.ab_norm.specs.ab_types.specs.Entries.{Table}
use Rattle.ab_norm.specs.ab_types.specs.Sound.{IsTable}
use Rattle.ab_norm.specs.ab_store.specs.declared.node.Head.{Head}
use Rattle.ab_term.specs.Types.{Ty, arrow}
use Rattle.ab_term.specs.Terms as tree
use Rattle.ab_norm.specs.ab_store.specs.declared.node.TermId.{TermId}
use Rattle.ab_norm.specs.ab_store.specs.Trees.{Contents, tree_of, head_in, head_reading}
use Rattle.ab_norm.specs.ab_store.specs.Naming.{HeadIsTyped}
use Rattle.ab_term.specs.Sameness.{same_head}
use Rattle.ab_term.specs.Abstraction.{among, close, abstracted}
use Rattle.ab_term.proofs.Same.{same_head-Decides}
use Rattle.ab_patterns.proofs.Rules.{heads_differ}

rest_is : (h : Head) (hs : List Head) → take (length (h ∷ hs) - 1) (drop 1 (h ∷ hs)) ≡ hs
rest_is h hs = ap (λ n. take n hs) (let e : suc (length hs) - 1 ≡ length hs = omega arith in e) ∙ take_all (length hs) hs (omega arith)

module _ (types : Table) (store : Contents) (g : Head) where
  pub first_among : (hs : List Head) (i : ℕ) (d : Head) → i < length hs → get_or hs i d ≡ g → true ≡ among (map (head_reading types store) (drop i hs)) (head_reading types store g)
  first_among hs i d l e =
      let h = get_or hs i d in
      sym (at_drop_more (λ l. among (map (head_reading types store) l) (head_reading types store g)) hs i d l
      ∙ or_left (same_head (head_reading types store h) (head_reading types store g)) (among (map (head_reading types store) (drop (i + 1) hs)) (head_reading types store g))
      ((same_head-Decides (head_reading types store h) (head_reading types store g)).1 (ap (head_reading types store) e)))

  pub rest_among : (hs : List Head) (i : ℕ) (d : Head) → i < length hs → IsTable types → All (HeadIsTyped types) hs → HeadIsTyped types g → get_or hs i d ≢ g
      → among (map (head_reading types store) (drop (i + 1) hs)) (head_reading types store g) ≡ among (map (head_reading types store) (drop i hs)) (head_reading types store g)
  rest_among hs i d l ok typed held n =
      let h = get_or hs i d in
      let other : same_head (head_reading types store h) (head_reading types store g) ≡ false = false_from_ne_true _ (λ e. heads_differ types store h g ok (typed i d l) held n ((same_head-Decides (head_reading types store h) (head_reading types store g)).0 e)) in
      sym (at_drop_more (λ l. among (map (head_reading types store) l) (head_reading types store g)) hs i d l
      ∙ ap (λ b. b || among (map (head_reading types store) (drop (i + 1) hs)) (head_reading types store g)) other)

first_bound : {Hint : Type 0} (x : Hint) (A B : Ty) (f : Head → tree.Head ℕ) (hs : List Head) (d : Head) (t : tree.Term ℕ Hint) → 1 ≤ length hs → abstracted x (arrow A B) (map f hs) t ≡ tree.lam A x (close 0 (f (slice_index_or hs 0 d)) (abstracted x B (map f (take (length hs - 1) (drop 1 hs))) t))
first_bound x A B f [] d t l = absurd (omega (arith, l))
first_bound x A B f (h ∷ hs) d t l = ap (λ ys. tree.lam A x (close 0 (f h) (abstracted x B (map f ys) t))) (sym (rest_is h hs))

-- one name more
pub abstracted_reads : (types : Table) (s0 s1 s2 s3 : Contents) (A B T : Ty) (hint : List ℕ) (names : List Head) (d : Head) (term inner closed r : TermId) → 1 ≤ length names → T ≡ arrow A B → s1.cells ≡ s0.cells
    → tree_of types s1 inner ≡ abstracted (codes "x") B (map (head_reading types s0) (take (length names - 1) (drop 1 names))) (tree_of types s0 term)
    → tree_of types s2 closed ≡ close 0 (head_reading types s1 (slice_index_or names 0 d)) (tree_of types s1 inner)
    → hint ≡ codes "x"
    → tree_of types s3 r ≡ tree.lam A hint (tree_of types s2 closed)
    → tree_of types s3 r ≡ abstracted (codes "x") T (map (head_reading types s0) names) (tree_of types s0 term)
abstracted_reads types s0 s1 s2 s3 A B T hint names d term inner closed r l is cells first second text made =
    made
    ∙ ap (λ x. tree.lam A x (tree_of types s2 closed)) text
    ∙ ap (tree.lam A (codes "x")) (second ∙ ap (λ cs. close 0 (head_in types cs (slice_index_or names 0 d)) (tree_of types s1 inner)) cells ∙ ap (close 0 (head_reading types s0 (slice_index_or names 0 d))) first)
    ∙ sym (first_bound (codes "x") A B (head_reading types s0) names d (tree_of types s0 term) l)
    ∙ ap (λ T. abstracted (codes "x") T (map (head_reading types s0) names) (tree_of types s0 term)) (sym is)
