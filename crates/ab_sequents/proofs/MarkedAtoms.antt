-- What the nodes that are made with marks read as.
use Rattle.std.proofs.Common.{◌≡◌, ℕ, Bool, true, false, if◌then◌else◌, List, [], ◌∷◌, map, refl, sym, ◌∙◌, ap}
use Rattle.ab_term.specs.Terms as tree
use Rattle.ab_term.specs.Terms.{Term, Terms, lam, spine, term, no_terms, terms_of, Read}
use Rattle.ab_norm.specs.ab_types.specs.Entries.{Table}
use Rattle.ab_norm.specs.ab_types.specs.Ids.{type_of}
use Rattle.ab_norm.specs.ab_types.specs.declared.ids.TypeId.{TypeId}
use Rattle.ab_norm.specs.ab_store.specs.declared.node.TermId.{TermId}
use Rattle.ab_norm.specs.ab_store.specs.declared.node.Head.{Head}
use Rattle.ab_norm.specs.ab_store.specs.declared.node.Node.{Node}
use Rattle.ab_norm.specs.ab_store.specs.declared.node.Node.TheVariants.{Lam, Spine}
use Rattle.ab_norm.specs.ab_store.specs.declared.node.CellEntry.{CellEntry}
use Rattle.ab_norm.specs.ab_store.specs.Trees.{Contents, tree_of, head_in, head_reading, node_tree}
use Rattle.ab_formulas.specs.Marks as plain
use Rattle.ab_formulas.specs.Marks.{Sign, Making, by_head, by_scope, by_parts, by_mark, making_of}
use Rattle.ab_formulas.specs.BodyMarks.{is_one_of, with_mark, marked_by, marked_in, all_marked_in}

module _ (ps : List (List ℕ)) where
  same_either : (b : Bool) (t : Read) → (if b then t else t) ≡ t
  same_either true t = refl
  same_either false t = refl

  by_making : (k : Making) (h : tree.Head ℕ) (ts us : Terms ℕ (List ℕ)) → us ≡ ts → marked_by k ps plain.plain h ts us ≡ spine h ts
  by_making by_head h ts us e = same_either (is_one_of ps h) (spine h ts)
  by_making by_scope h ts us e = ap (spine h) e
  by_making by_parts h ts us e = ap (spine h) e
  by_making (by_mark n) h ts us e = refl

  mutual
    -- nothing changes where there is no mark
    pub marked_not : (t : Read) → marked_in ps plain.plain t ≡ t
    marked_not (lam A x t) = ap (lam A x) (marked_not t)
    marked_not (spine h ts) = by_making (making_of h) h ts (all_marked_in ps plain.plain ts) (all_marked_not ts)

    all_marked_not : (ts : Terms ℕ (List ℕ)) → all_marked_in ps plain.plain ts ≡ ts
    all_marked_not no_terms = refl
    all_marked_not (term t ts) = ap (λ u. term u (all_marked_in ps plain.plain ts)) (marked_not t) ∙ ap (term t) (all_marked_not ts)

module _ (ps : List (List ℕ)) (m : Sign) where
  all_marked_read : (g : TermId → Read) (ts : List TermId) → all_marked_in ps m (terms_of (map g ts)) ≡ terms_of (map (λ t. marked_in ps m (g t)) ts)
  all_marked_read g [] = refl
  all_marked_read g (t ∷ ts) = ap (term (marked_in ps m (g t))) (all_marked_read g ts)

  module _ (types : Table) (s0 s1 s2 : Contents) (t r : TermId) (n : Node) (reads : tree_of types s0 t ≡ node_tree types s0 n) where
    pub marked_lam : (ty : TypeId) (x : List ℕ) (body inner : TermId) → n ≡ Lam ty x body
        → tree_of types s1 inner ≡ marked_in ps m (tree_of types s0 body)
        → tree_of types s2 r ≡ lam (type_of types ty) x (tree_of types s1 inner)
        → tree_of types s2 r ≡ marked_in ps m (tree_of types s0 t)
    marked_lam ty x body inner is here made =
        made ∙ ap (lam (type_of types ty) x) here ∙ sym (ap (marked_in ps m) (reads ∙ ap (node_tree types s0) is))

    abbrev whole : Making → Head → List TermId → Read
    whole k h args = marked_by k ps m (head_in types s0.cells h) (terms_of (map (tree_of types s0) args)) (all_marked_in ps m (terms_of (map (tree_of types s0) args)))

    marked_is : (k : Making) (h : Head) (args : List TermId) → n ≡ Spine h args → making_of (head_in types s0.cells h) ≡ k → marked_in ps m (tree_of types s0 t) ≡ whole k h args
    marked_is k h args is by = ap (marked_in ps m) (reads ∙ ap (node_tree types s0) is) ∙ ap (λ j. whole j h args) by

    here : (h : Head) (args : List TermId) → n ≡ Spine h args → tree_of types s0 t ≡ spine (head_in types s0.cells h) (terms_of (map (tree_of types s0) args))
    here h args is = reads ∙ ap (node_tree types s0) is

    -- the head is one of the predicates
    pub marked_atom : (h : Head) (args : List TermId) → n ≡ Spine h args → making_of (head_in types s0.cells h) ≡ by_head → is_one_of ps (head_in types s0.cells h) ≡ true
        → tree_of types s2 r ≡ with_mark m (tree_of types s0 t) → tree_of types s2 r ≡ marked_in ps m (tree_of types s0 t)
    marked_atom h args is by one made =
        made ∙ ap (with_mark m) (here h args is)
        ∙ sym (marked_is by_head h args is by ∙ ap (λ b. if b then with_mark m (spine (head_in types s0.cells h) (terms_of (map (tree_of types s0) args))) else spine (head_in types s0.cells h) (terms_of (map (tree_of types s0) args))) one)

    -- it is another one
    pub marked_other : (h : Head) (args : List TermId) → n ≡ Spine h args → making_of (head_in types s0.cells h) ≡ by_head → is_one_of ps (head_in types s0.cells h) ≡ false
        → tree_of types s0 t ≡ marked_in ps m (tree_of types s0 t)
    marked_other h args is by other =
        here h args is
        ∙ sym (marked_is by_head h args is by ∙ ap (λ b. if b then with_mark m (spine (head_in types s0.cells h) (terms_of (map (tree_of types s0) args))) else spine (head_in types s0.cells h) (terms_of (map (tree_of types s0) args))) other)

    -- it is a mark
    pub marked_marked : (k : Sign) (h : Head) (args : List TermId) → n ≡ Spine h args → making_of (head_in types s0.cells h) ≡ by_mark k → tree_of types s0 t ≡ marked_in ps m (tree_of types s0 t)
    marked_marked k h args is by = here h args is ∙ sym (marked_is (by_mark k) h args is by)

    -- it is a connective or a quantifier
    pub marked_inside : (k : Making) → ((g : tree.Head ℕ) (ts us : Terms ℕ (List ℕ)) → marked_by k ps m g ts us ≡ spine g us) → (h : Head) (args given : List TermId) → n ≡ Spine h args → making_of (head_in types s0.cells h) ≡ k
        → given ≡ args
        → tree_of types s2 r ≡ spine (head_reading types s0 h) (all_marked_in ps m (terms_of (map (tree_of types s0) given)))
        → tree_of types s2 r ≡ marked_in ps m (tree_of types s0 t)
    marked_inside k inside h args given is by same put =
        put
        ∙ ap (λ us. spine (head_in types s0.cells h) (all_marked_in ps m (terms_of (map (tree_of types s0) us)))) same
        ∙ sym (inside (head_in types s0.cells h) (terms_of (map (tree_of types s0) args)) (all_marked_in ps m (terms_of (map (tree_of types s0) args))))
        ∙ sym (marked_is k h args is by)

  -- the head, given the terms with marks
  pub marked_spine : (types : Table) (s0 s1 s2 : Contents) (r : TermId) (h : Head) (args made : List TermId) → s1.cells ≡ s0.cells
      → map (tree_of types s1) made ≡ map (λ u. marked_in ps m (tree_of types s0 u)) args
      → tree_of types s2 r ≡ spine (head_reading types s1 h) (terms_of (map (tree_of types s1) made))
      → tree_of types s2 r ≡ spine (head_reading types s0 h) (all_marked_in ps m (terms_of (map (tree_of types s0) args)))
  marked_spine types s0 s1 s2 r h args made cells here put =
      put
      ∙ ap (λ (C : List CellEntry). spine (head_in types C h) (terms_of (map (tree_of types s1) made))) cells
      ∙ ap (λ l. spine (head_in types s0.cells h) (terms_of l)) here
      ∙ ap (spine (head_in types s0.cells h)) (sym (all_marked_read (tree_of types s0) args))
