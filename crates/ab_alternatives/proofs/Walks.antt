-- Heads of clauses, node by node.
use Rattle.std.proofs.Common.{◌≡◌, ◌≢◌, ℕ, ◌<◌, ◌≤◌, List, [], ◌∷◌, map, length, get_or, refl, sym, ap, ◌∙◌, subst, arith}
use Rattle.ab_term.specs.Types.{Ty}
use Rattle.ab_term.specs.Logical as plain
use Rattle.ab_term.specs.Terms.{logical, lam, spine, no_terms, term, terms_of, Read}
use Rattle.ab_norm.specs.ab_types.specs.Entries.{Table}
use Rattle.ab_norm.specs.ab_types.specs.Ids.{type_of}
use Rattle.ab_norm.specs.ab_types.specs.declared.ids.ConstId.{ConstId}
use Rattle.ab_norm.specs.ab_types.specs.declared.ids.TypeId.{TypeId}
use Rattle.ab_norm.specs.ab_store.specs.declared.node.TermId.{TermId}
use Rattle.ab_norm.specs.ab_store.specs.declared.node.Head.{Head}
use Rattle.ab_norm.specs.ab_store.specs.declared.node.Head.TheVariants.{Const, Logic}
use Rattle.ab_norm.specs.ab_store.specs.declared.node.Logical.TheVariants.{Nabla}
use Rattle.ab_norm.specs.ab_store.specs.declared.node.Node.{Node}
use Rattle.ab_norm.specs.ab_store.specs.declared.node.Node.TheVariants.{Lam, Spine}
use Rattle.ab_norm.specs.ab_store.specs.Trees.{Contents, tree_of, node_tree}
use Rattle.ab_unifiers.specs.Prefixes.{prefix, IsHead}
use Rattle.ab_typing.specs.DefinitionReadings.{name_of}
use Rattle.ab_formulas.specs.PrefixedAtoms.{HeadedBy, an_atom, a_nabla}

one_of : (given : List TermId) (d : TermId) → 1 ≤ length given → length given < 2 → given ≡ get_or given 0 d ∷ []
one_of [] d low high = absurd (omega (arith, low))
one_of (t ∷ []) d low high = refl
one_of (t ∷ u ∷ ts) d low high = absurd (omega (arith, high))

many_heads : (A : Ty) (f : TermId → Read) (xs : List TermId) → length xs ≢ 1 → IsHead (spine (logical (plain.nabla A)) (terms_of (map f xs))) → ⊥
many_heads A f [] other h = h
many_heads A f (t ∷ []) other h = other refl
many_heads A f (t ∷ u ∷ zs) other h = go (f t) h
  where
    go : (r : Read) → IsHead (spine (logical (plain.nabla A)) (term r (term (f u) (terms_of (map f zs))))) → ⊥
    go (lam B y s) i = i
    go (spine g ts) i = i

many_none : (A : Ty) (f : TermId → Read) (xs : List TermId) → length xs ≢ 1 → prefix (spine (logical (plain.nabla A)) (terms_of (map f xs))) ≡ []
many_none A f [] other = refl
many_none A f (t ∷ []) other = absurd (other refl)
many_none A f (t ∷ u ∷ zs) other = go (f t)
  where
    go : (r : Read) → prefix (spine (logical (plain.nabla A)) (term r (term (f u) (terms_of (map f zs))))) ≡ []
    go (lam B y s) = refl
    go (spine g ts) = refl

module _ (types : Table) (s : Contents) (t : TermId) (n : Node) (reads : tree_of types s t ≡ node_tree types s n) (h : Head) (ts : List TermId) (is : n ≡ Spine h ts) where
  pub an_atom_here : (c : ConstId) → h ≡ Const c → HeadedBy (tree_of types s t) (name_of types c) (prefix (tree_of types s t))
  an_atom_here c e =
      subst (λ r. HeadedBy r (name_of types c) (prefix r)) (sym (reads ∙ ap (node_tree types s) (is ∙ ap (λ g. Spine g ts) e))) (an_atom (name_of types c) (terms_of (map (tree_of types s) ts)))

  module _ (a : TypeId) (given : List TermId) (e : h ≡ Logic (Nabla a)) (same : given ≡ ts) where
    whole : tree_of types s t ≡ spine (logical (plain.nabla (type_of types a))) (terms_of (map (tree_of types s) given))
    whole = reads ∙ ap (node_tree types s) (is ∙ ap (λ g. Spine g ts) e ∙ ap (λ l. Spine (Logic (Nabla a)) l) (sym same))

    pub no_head : length given ≢ 1 → IsHead (tree_of types s t) → ⊥
    no_head other i = many_heads (type_of types a) (tree_of types s) given other (subst IsHead whole i)

    pub no_prefix : length given ≢ 1 → prefix (tree_of types s t) ≡ []
    no_prefix other = ap prefix whole ∙ many_none (type_of types a) (tree_of types s) given other

    module _ (d : TermId) (low : 1 ≤ length given) (high : length given < 2) (m : Node) (below : tree_of types s (get_or given 0 d) ≡ node_tree types s m)
        (b : TypeId) (y : List ℕ) (body : TermId) (is_lam : m ≡ Lam b y body) where
      opened : tree_of types s t ≡ spine (logical (plain.nabla (type_of types a))) (term (lam (type_of types b) y (tree_of types s body)) no_terms)
      opened =
          whole
          ∙ ap (λ l. spine (logical (plain.nabla (type_of types a))) (terms_of (map (tree_of types s) l))) (one_of given d low high)
          ∙ ap (λ r. spine (logical (plain.nabla (type_of types a))) (term r no_terms)) (below ∙ ap (node_tree types s) is_lam)

      pub a_nabla_here : (p : List ℕ) → HeadedBy (tree_of types s body) p (prefix (tree_of types s body)) → HeadedBy (tree_of types s t) p (prefix (tree_of types s t))
      a_nabla_here p under =
          subst (λ r. HeadedBy r p (prefix r)) (sym opened) (a_nabla (type_of types a) (type_of types b) y (tree_of types s body) p (prefix (tree_of types s body)) under)

      pub head_below : IsHead (tree_of types s t) → IsHead (tree_of types s body)
      head_below i = subst IsHead opened i

      pub prefix_below : map (λ z. z.type) (prefix (tree_of types s t)) ≡ type_of types a ∷ map (λ z. z.type) (prefix (tree_of types s body))
      prefix_below = ap (λ r. map (λ z. z.type) (prefix r)) opened
