-- Heads of clauses, node by node.
use Rattle.std.proofs.Common.{◌≡◌, ◌≢◌, ◌↔◌, ℕ, List, [], ◌∷◌, map, length, Bool, true, false, Contains, bytes_eq, refl, sym, ap, ◌∙◌, subst}
use Rattle.std.specs.List.{All, list_any}
use Rattle.ab_term.specs.Types.{Ty}
use Rattle.ab_term.specs.Logical as plain
use Rattle.ab_term.specs.Terms.{logical, lam, spine, Terms, term, terms_of, Read}
use Rattle.ab_store.specs.ab_types.specs.Entries.{Table}
use Rattle.ab_store.specs.ab_types.specs.Ids.{type_of}
use Rattle.ab_store.specs.ab_types.specs.declared.ids.ConstId.{ConstId}
use Rattle.ab_store.specs.ab_types.specs.declared.ids.TypeId.{TypeId}
use Rattle.ab_store.specs.declared.node.TermId.{TermId}
use Rattle.ab_store.specs.declared.node.Head.{Head}
use Rattle.ab_store.specs.declared.node.Head.TheVariants.{Const, Logic}
use Rattle.ab_store.specs.declared.node.Logical.TheVariants.{Nabla}
use Rattle.ab_store.specs.declared.node.Node.{Node}
use Rattle.ab_store.specs.declared.node.Node.TheVariants.{Spine}
use Rattle.ab_store.specs.Trees.{Contents, tree_of, node_tree}
use Rattle.ab_formulas.specs.Heads.{in_the_atom, KeepsNames, AllKeepNames, IsHeadOf}
use Rattle.ab_typing.specs.DefinitionReadings.{name_of}
use Rattle.ab_typing.proofs.Keeping.{all_keep, each_keeps}
use Rattle.ab_formulas.proofs.Names.{contains_any}
use Rattle.ab_typing.proofs.Names.{any_contains}

module _ (ps : List (List ℕ)) where
  -- a quantifier that is given anything but one term
  two_terms : (A : Ty) (u v : Read) (us : Terms ℕ (List ℕ)) → IsHeadOf ps (spine (logical (plain.nabla A)) (term u (term v us))) → ⊥
  two_terms A (lam B x t) v us h = h
  two_terms A (spine g ts) v us h = h

  other_number : (A : Ty) (f : TermId → Read) (xs : List TermId) → length xs ≢ 1 → IsHeadOf ps (spine (logical (plain.nabla A)) (terms_of (map f xs))) → ⊥
  other_number A f [] other h = h
  other_number A f (x ∷ []) other h = other refl
  other_number A f (x ∷ y ∷ zs) other h = two_terms A (f x) (f y) (terms_of (map f zs)) h

  module _ (types : Table) (s : Contents) (t : TermId) (n : Node) (reads : tree_of types s t ≡ node_tree types s n) (h : Head) (ts : List TermId) (is : n ≡ Spine h ts) where
    as_atom : (c : ConstId) → h ≡ Const c → IsHeadOf ps (tree_of types s t) ≡ (Contains ps (name_of types c) × AllKeepNames in_the_atom 0 (terms_of (map (tree_of types s) ts)))
    as_atom c e = ap (IsHeadOf ps) (reads ∙ ap (node_tree types s) (is ∙ ap (λ g. Spine g ts) e))

    pub no_predicate : (c : ConstId) (r : Bool) → h ≡ Const c → r ≡ list_any (bytes_eq (name_of types c)) ps → r ≡ false → IsHeadOf ps (tree_of types s t) → ⊥
    no_predicate c r e test off w =
        let q : false ≡ true = sym off ∙ test ∙ contains_any (name_of types c) ps (subst (λ X. X) (as_atom c e) w).0 in
        absurd (cc)

    pub a_predicate : (c : ConstId) (given : List TermId) (r answer : Bool) → h ≡ Const c → given ≡ ts → r ≡ list_any (bytes_eq (name_of types c)) ps → r ≡ true
        → (answer ≡ true) ↔ All (λ u. KeepsNames in_the_atom 0 (tree_of types s u)) given → (answer ≡ true) ↔ IsHeadOf ps (tree_of types s t)
    a_predicate c given r answer e same test on all = (
      λ y. subst (λ X. X) (sym (as_atom c e)) (any_contains (name_of types c) ps (sym test ∙ on), all_keep in_the_atom 0 (tree_of types s) ts (subst (All (λ u. KeepsNames in_the_atom 0 (tree_of types s u))) same (all.0 y))),
      λ w. all.1 (subst (All (λ u. KeepsNames in_the_atom 0 (tree_of types s u))) (sym same) (each_keeps in_the_atom 0 (tree_of types s) ts (subst (λ X. X) (as_atom c e) w).1)),
    )

    pub no_scope : (a : TypeId) (given : List TermId) → h ≡ Logic (Nabla a) → given ≡ ts → length given ≢ 1 → IsHeadOf ps (tree_of types s t) → ⊥
    no_scope a given e same other w =
        other_number (type_of types a) (tree_of types s) given other
        (subst (IsHeadOf ps) (reads ∙ ap (node_tree types s) (is ∙ ap (λ g. Spine g ts) e ∙ ap (λ l. Spine (Logic (Nabla a)) l) (sym same))) w)
