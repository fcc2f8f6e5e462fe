-- Terms that renaming leaves as they are.
use Rattle.std.proofs.Common.{◌≡◌, ℕ, ◌+◌, ◌<◌, List, [], ◌∷◌, ◌++◌, map, take, length, get_or, refl, sym, ◌∙◌, ap}
use Rattle.std.specs.List.{All}
use Rattle.std.proofs.lemmas.List.{map_more, map-append}
use Rattle.ab_term.specs.Terms as tree
use Rattle.ab_term.specs.Terms.{Term, Terms, lam, spine, term, no_terms, terms_of, Read}
use Rattle.ab_term.specs.Names.{support_of_head, support, support_of_all, rename_head, rename, rename_all}
use Rattle.ab_store.specs.ab_types.specs.Entries.{Table}
use Rattle.ab_store.specs.declared.node.TermId.{TermId}
use Rattle.ab_store.specs.Trees.{Contents, Holds, tree_of}
use Rattle.ab_store.specs.Growth.{IsExtendedBy}
use Rattle.ab_norm.specs.NameMatches.{Renaming}
use Rattle.ab_norm.proofs.Frame.{still_read_before}

append_left : {X : Type 0} (xs ys : List X) → xs ++ ys ≡ [] → xs ≡ []
append_left [] ys e = refl
append_left (x ∷ xs) ys e = absurd (cc)

append_right : {X : Type 0} (xs ys : List X) → xs ++ ys ≡ [] → ys ≡ []
append_right [] ys e = e
append_right (x ∷ xs) ys e = absurd (cc)

module _ (f : Renaming) where
  head_stays : {Var : Type 0} (h : tree.Head Var) → support_of_head h ≡ [] → rename_head f h ≡ h
  head_stays (tree.constant c) e = refl
  head_stays (tree.logical l) e = refl
  head_stays (tree.nominal a) e = absurd (cc)
  head_stays (tree.variable x) e = refl
  head_stays (tree.index i) e = refl

  -- a term without nominal constants stays
  mutual
    pub stays : (t : Read) → support t ≡ [] → rename f t ≡ t
    stays (lam A x t) e = ap (lam A x) (stays t e)
    stays (spine h ts) e =
        ap (λ g. spine g (rename_all f ts)) (head_stays h (append_left (support_of_head h) (support_of_all ts) e))
        ∙ ap (spine h) (all_stay ts (append_right (support_of_head h) (support_of_all ts) e))

    all_stay : (ts : Terms ℕ (List ℕ)) → support_of_all ts ≡ [] → rename_all f ts ≡ ts
    all_stay no_terms e = refl
    all_stay (term t ts) e =
        ap (λ u. term u (rename_all f ts)) (stays t (append_left (support t) (support_of_all ts) e))
        ∙ ap (term t) (all_stay ts (append_right (support t) (support_of_all ts) e))

-- one more argument
pub read_more_before : (types : Table) (F : Read → Read) (s0 s1 s2 : Contents) (ts done more : List TermId) (i : ℕ) (d r : TermId)
    → IsExtendedBy s0 s1 → IsExtendedBy s1 s2
    → All (Holds s0) ts
    → All (Holds s1) done
    → map (tree_of types s1) done ≡ map (λ t. F (tree_of types s0 t)) (take i ts)
    → tree_of types s2 r ≡ F (tree_of types s1 (get_or ts i d))
    → i < length ts
    → more ≡ done ++ r ∷ []
    → map (tree_of types s2) more ≡ map (λ t. F (tree_of types s0 t)) (take (i + 1) ts)
read_more_before types F s0 s1 s2 ts done more i d r e f within held reads here l push =
    ap (map (tree_of types s2)) push
    ∙ map-append (tree_of types s2) done (r ∷ [])
    ∙ ap (λ l. l ++ tree_of types s2 r ∷ []) (still_read_before types s1 s2 done f held ∙ reads)
    ∙ ap (λ x. map (λ t. F (tree_of types s0 t)) (take i ts) ++ x ∷ []) (here ∙ ap F (e.trees types (get_or ts i d) (within i d l)))
    ∙ sym (map_more (λ t. F (tree_of types s0 t)) ts i d l)
