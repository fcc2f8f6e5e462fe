-- What the nodes that are made without marks read as.
use Rattle.std.specs.Prelude.{get_or}
use Rattle.std.proofs.Common.{◌≡◌, ℕ, List, [], ◌∷◌, map, refl, sym, ◌∙◌, ap}
use Rattle.ab_term.specs.Terms as tree
use Rattle.ab_term.specs.Terms.{Term, Terms, lam, spine, term, no_terms, terms_of, Read}
use Rattle.ab_norm.specs.ab_types.specs.Entries.{Table}
use Rattle.ab_norm.specs.ab_types.specs.Ids.{type_of}
use Rattle.ab_norm.specs.ab_types.specs.declared.ids.TypeId.{TypeId}
use Rattle.ab_norm.specs.ab_store.specs.declared.node.TermId.{TermId}
use Rattle.ab_norm.specs.ab_store.specs.declared.node.Head.{Head}
use Rattle.ab_norm.specs.ab_store.specs.declared.node.Node.{Node}
use Rattle.ab_norm.specs.ab_store.specs.declared.node.Node.TheVariants.{Lam, Spine}
use Rattle.ab_norm.specs.ab_store.specs.declared.node.CellEntry.{CellEntry}
use Rattle.ab_norm.specs.ab_store.specs.Trees.{Contents, tree_of, head_in, head_reading, node_tree}
use Rattle.ab_formulas.specs.Marks as plain
use Rattle.ab_formulas.specs.Marks.{Making, by_head, by_scope, by_parts, by_mark, making_of, unmarked, erased, erased_all, Sign}

erased_all_read : (g : TermId → Read) (ts : List TermId) → erased_all (terms_of (map g ts)) ≡ terms_of (map (λ t. erased (g t)) ts)
erased_all_read g [] = refl
erased_all_read g (t ∷ ts) = ap (term (erased (g t))) (erased_all_read g ts)

module _ (types : Table) (s0 s1 s2 : Contents) (t r : TermId) (n : Node) (reads : tree_of types s0 t ≡ node_tree types s0 n) where
  pub erased_lam : (ty : TypeId) (x : List ℕ) (body inner : TermId) → n ≡ Lam ty x body
      → tree_of types s1 inner ≡ erased (tree_of types s0 body)
      → tree_of types s2 r ≡ lam (type_of types ty) x (tree_of types s1 inner)
      → tree_of types s2 r ≡ erased (tree_of types s0 t)
  erased_lam ty x body inner is here made =
      made ∙ ap (lam (type_of types ty) x) here ∙ sym (ap erased (reads ∙ ap (node_tree types s0) is))

  abbrev whole : Head → List TermId → Read
  whole h args = unmarked (making_of (head_in types s0.cells h)) (head_in types s0.cells h) (terms_of (map (tree_of types s0) args)) (erased_all (terms_of (map (tree_of types s0) args)))

  pub erased_is : (h : Head) (args : List TermId) → n ≡ Spine h args → erased (tree_of types s0 t) ≡ whole h args
  erased_is h args is = ap erased (reads ∙ ap (node_tree types s0) is)

  -- the head has no parts that may be marked
  pub erased_same : (h : Head) (args : List TermId) → n ≡ Spine h args → making_of (head_in types s0.cells h) ≡ by_head → tree_of types s0 t ≡ erased (tree_of types s0 t)
  erased_same h args is by =
      sym (erased_is h args is ∙ ap (λ m. unmarked m (head_in types s0.cells h) (terms_of (map (tree_of types s0) args)) (erased_all (terms_of (map (tree_of types s0) args)))) by
      ∙ sym (reads ∙ ap (node_tree types s0) is))

  -- the head is a mark
  pub erased_mark : (m : Sign) (h : Head) (args : List TermId) → n ≡ Spine h args → making_of (head_in types s0.cells h) ≡ by_mark m → tree_of types s0 (get_or args 0 t) ≡ erased (tree_of types s0 t)
  erased_mark m h args is by =
      sym (erased_is h args is ∙ ap (λ k. unmarked k (head_in types s0.cells h) (terms_of (map (tree_of types s0) args)) (erased_all (terms_of (map (tree_of types s0) args)))) by
      ∙ go args is)
    where
      go : (ts : List TermId) → n ≡ Spine h ts → unmarked (by_mark m) (head_in types s0.cells h) (terms_of (map (tree_of types s0) ts)) (erased_all (terms_of (map (tree_of types s0) ts))) ≡ tree_of types s0 (get_or ts 0 t)
      go [] e = sym (reads ∙ ap (node_tree types s0) e)
      go (u ∷ us) e = refl

  -- the head is a connective or a quantifier
  pub erased_inside : (m : Making) → ((h : tree.Head ℕ) (ts us : Terms ℕ (List ℕ)) → unmarked m h ts us ≡ spine h us) → (h : Head) (args given : List TermId) → n ≡ Spine h args → making_of (head_in types s0.cells h) ≡ m
      → given ≡ args
      → tree_of types s2 r ≡ spine (head_reading types s0 h) (erased_all (terms_of (map (tree_of types s0) given)))
      → tree_of types s2 r ≡ erased (tree_of types s0 t)
  erased_inside m inside h args given is by same put =
      put
      ∙ ap (λ us. spine (head_in types s0.cells h) (erased_all (terms_of (map (tree_of types s0) us)))) same
      ∙ sym (inside (head_in types s0.cells h) (terms_of (map (tree_of types s0) args)) (erased_all (terms_of (map (tree_of types s0) args))))
      ∙ sym (erased_is h args is ∙ ap (λ k. unmarked k (head_in types s0.cells h) (terms_of (map (tree_of types s0) args)) (erased_all (terms_of (map (tree_of types s0) args)))) by)

-- the head, given the terms without marks
pub erased_spine : (types : Table) (s0 s1 s2 : Contents) (r : TermId) (h : Head) (args made : List TermId) → s1.cells ≡ s0.cells
    → map (tree_of types s1) made ≡ map (λ u. erased (tree_of types s0 u)) args
    → tree_of types s2 r ≡ spine (head_reading types s1 h) (terms_of (map (tree_of types s1) made))
    → tree_of types s2 r ≡ spine (head_reading types s0 h) (erased_all (terms_of (map (tree_of types s0) args)))
erased_spine types s0 s1 s2 r h args made cells here put =
    put
    ∙ ap (λ (C : List CellEntry). spine (head_in types C h) (terms_of (map (tree_of types s1) made))) cells
    ∙ ap (λ l. spine (head_in types s0.cells h) (terms_of l)) here
    ∙ ap (spine (head_in types s0.cells h)) (sym (erased_all_read (tree_of types s0) args))
