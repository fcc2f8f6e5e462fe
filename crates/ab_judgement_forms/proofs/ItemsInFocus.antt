-- Some item of a list comes into focus, on shared terms, where stores only get terms.
use Rattle.std.proofs.Common.{◌≡◌, ℕ, zero, List, codes, ap, ◌∙◌}
use Rattle.ab_term.specs.Types.{Ty, o}
use Rattle.ab_term.specs.Logical.{existential}
use Rattle.ab_term.specs.Terms.{constant, logical, index, lam, spine, no_terms, term, Read}
use Rattle.ab_term.specs.Substitution.{shift}
use Rattle.ab_norm.specs.ab_types.specs.Entries.{Table}
use Rattle.ab_norm.specs.ab_store.specs.declared.node.TermId.{TermId}
use Rattle.ab_norm.specs.ab_store.specs.Trees.{Contents, tree_of}
use Rattle.ab_unifiers.specs.Member.{in_the_list}
use Rattle.ab_formulas.specs.Marks.{Sign}
use Rattle.ab_theory.specs.Judgements.{marked_focus}
use Rattle.ab_theory.specs.Opening.{both}
use Rattle.ab_theory.specs.SpecRules.{some_item}

pub over_items : (A : Ty) (h : List ℕ) (t u : Read) → A ≡ o → h ≡ codes "F" → u ≡ lam A h t
    → spine (logical (existential A)) (term u no_terms) ≡ spine (logical (existential o)) (term (lam o (codes "F") t) no_terms)
over_items A h t u ty hint is =
    ap (λ v. spine (logical (existential A)) (term v no_terms)) is
    ∙ ap (λ B. spine (logical (existential B)) (term (lam B h t) no_terms)) ty
    ∙ ap (λ x. spine (logical (existential o)) (term (lam o x t) no_terms)) hint

abbrev in_focus : Sign → Read → Read → Read → Read
in_focus m L X A = both (marked_focus m L X A) (spine (constant (codes "member")) (in_the_list X L))

module _ (T : Table) (m : Sign) where
  pub made_item : (S S1 S2 S3 : Contents) (L X A j k r : TermId) (n : List ℕ) → n ≡ codes "member"
      → tree_of T S1 j ≡ marked_focus m (tree_of T S L) (tree_of T S X) (tree_of T S A)
      → tree_of T S1 X ≡ tree_of T S X → tree_of T S1 L ≡ tree_of T S L
      → tree_of T S2 k ≡ spine (constant n) (term (tree_of T S1 X) (term (tree_of T S1 L) no_terms))
      → tree_of T S2 j ≡ tree_of T S1 j
      → tree_of T S3 r ≡ both (tree_of T S2 j) (tree_of T S2 k)
      → tree_of T S3 r ≡ both (marked_focus m (tree_of T S L) (tree_of T S X) (tree_of T S A)) (spine (constant (codes "member")) (in_the_list (tree_of T S X) (tree_of T S L)))
  made_item S S1 S2 S3 L X A j k r n member focus item list within still made =
      made
      ∙ ap (λ u. both u (tree_of T S2 k)) (still ∙ focus)
      ∙ ap (both (marked_focus m (tree_of T S L) (tree_of T S X) (tree_of T S A)))
      (within
      ∙ ap (λ c. spine (constant c) (term (tree_of T S1 X) (term (tree_of T S1 L) no_terms))) member
      ∙ ap (λ x. spine (constant (codes "member")) (term x (term (tree_of T S1 L) no_terms))) item
      ∙ ap (λ l. spine (constant (codes "member")) (term (tree_of T S X) (term l no_terms))) list)

  pub made_some : (S S1 S2 S3 S4 S5 : Contents) (L A l a x b r : TermId)
      → tree_of T S1 l ≡ shift zero (tree_of T S L) → tree_of T S1 A ≡ tree_of T S A → tree_of T S2 a ≡ shift zero (tree_of T S1 A)
      → tree_of T S3 l ≡ tree_of T S1 l → tree_of T S3 a ≡ tree_of T S2 a → tree_of T S3 x ≡ spine (index zero) no_terms
      → tree_of T S4 b ≡ in_focus m (tree_of T S3 l) (tree_of T S3 x) (tree_of T S3 a)
      → tree_of T S5 r ≡ spine (logical (existential o)) (term (lam o (codes "F") (tree_of T S4 b)) no_terms)
      → tree_of T S5 r ≡ some_item m (tree_of T S L) (tree_of T S A)
  made_some S S1 S2 S3 S4 S5 L A l a x b r list atom goal list_still goal_still item body made =
      let whole = λ (K X G : Read). spine (logical (existential o)) (term (lam o (codes "F") (in_focus m K X G)) no_terms) in
      made
      ∙ ap (λ u. spine (logical (existential o)) (term (lam o (codes "F") u) no_terms)) body
      ∙ ap (λ K. whole K (tree_of T S3 x) (tree_of T S3 a)) (list_still ∙ list)
      ∙ ap (λ X. whole (shift zero (tree_of T S L)) X (tree_of T S3 a)) item
      ∙ ap (λ G. whole (shift zero (tree_of T S L)) (spine (index zero) no_terms) G) (goal_still ∙ goal ∙ ap (shift zero) atom)
