-- Goals opened, by the outermost connective.
use Rattle.std.proofs.Common.{◌≡◌, ℕ, zero, List, codes, sym, ap, ◌∙◌}
use Rattle.ab_term.specs.Types.{Ty}
use Rattle.ab_term.specs.Logical.{nabla}
use Rattle.ab_term.specs.Terms as tree
use Rattle.ab_term.specs.Terms.{constant, logical, lam, spine, Terms, no_terms, term, Read}
use Rattle.ab_term.specs.Substitution.{shift}
use Rattle.ab_norm.specs.ab_types.specs.Entries.{Table}
use Rattle.ab_norm.specs.ab_store.specs.declared.node.TermId.{TermId}
use Rattle.ab_norm.specs.ab_store.specs.Trees.{Contents, tree_of}
use Rattle.ab_unifiers.specs.Member.{before}
use Rattle.ab_formulas.specs.Marks.{Sign}
use Rattle.ab_theory.specs.Judgements.{marked_judgement}
use Rattle.ab_theory.specs.Opening.{both, open_goal}
use Rattle.ab_judgement_forms.specs.Shapes.{for_names, behind, together, other, shape_of}
use Rattle.ab_judgement_forms.proofs.Connectives.{opened_by, seen}

module _ (m : Sign) (L F : Read) where
  pub opens_pi : (a t : Read) (A B : Ty) (x : List ℕ) → shape_of F ≡ for_names A a → a ≡ lam B x t
      → spine (logical (nabla A)) (term (lam A x (open_goal m (shift zero L) t)) no_terms) ≡ open_goal m L F
  opens_pi a t A B x shape is = sym ((seen F).opened m L ∙ ap (opened_by m L F) (shape ∙ ap (for_names A) is))

  pub opens_spine : (a : Read) (A : Ty) (h : tree.Head ℕ) (ts : Terms ℕ (List ℕ)) → shape_of F ≡ for_names A a → a ≡ spine h ts → marked_judgement m L F ≡ open_goal m L F
  opens_spine a A h ts shape is = sym ((seen F).opened m L ∙ ap (opened_by m L F) (shape ∙ ap (for_names A) is))

  pub opens_imply : (G H : Read) → shape_of F ≡ behind G H → open_goal m (before G L) H ≡ open_goal m L F
  opens_imply G H shape = sym ((seen F).opened m L ∙ ap (opened_by m L F) shape)

  pub opens_with : (G H : Read) → shape_of F ≡ together G H → both (open_goal m L G) (open_goal m L H) ≡ open_goal m L F
  opens_with G H shape = sym ((seen F).opened m L ∙ ap (opened_by m L F) shape)

  pub opens_other : shape_of F ≡ other → marked_judgement m L F ≡ open_goal m L F
  opens_other shape = sym ((seen F).opened m L ∙ ap (opened_by m L F) shape)

-- the same on shared terms, where stores only get terms
module _ (types : Table) (m : Sign) (S S1 S2 S3 : Contents) (L F r : TermId) where
  pub made_pi : (A : Ty) (B : Ty) (x y : List ℕ) (a t l o : TermId) → shape_of (tree_of types S F) ≡ for_names A (tree_of types S a) → tree_of types S a ≡ lam B x (tree_of types S t) → y ≡ x
      → tree_of types S1 t ≡ tree_of types S t → tree_of types S1 l ≡ shift zero (tree_of types S L)
      → tree_of types S2 o ≡ open_goal m (tree_of types S1 l) (tree_of types S1 t)
      → tree_of types S3 r ≡ spine (logical (nabla A)) (term (lam A y (tree_of types S2 o)) no_terms)
      → tree_of types S3 r ≡ open_goal m (tree_of types S L) (tree_of types S F)
  made_pi A B x y a t l o shape is name same list opened made =
      made
      ∙ ap (λ z. spine (logical (nabla A)) (term (lam A z (tree_of types S2 o)) no_terms)) name
      ∙ ap (λ u. spine (logical (nabla A)) (term (lam A x u) no_terms)) (opened ∙ ap (λ k. open_goal m k (tree_of types S1 t)) list ∙ ap (open_goal m (shift zero (tree_of types S L))) same)
      ∙ opens_pi m (tree_of types S L) (tree_of types S F) (tree_of types S a) (tree_of types S t) A B x shape is

  pub made_imply : (n : List ℕ) (G H l : TermId) → shape_of (tree_of types S F) ≡ behind (tree_of types S G) (tree_of types S H) → n ≡ codes "::"
      → tree_of types S1 H ≡ tree_of types S H
      → tree_of types S1 l ≡ spine (constant n) (term (tree_of types S G) (term (tree_of types S L) no_terms))
      → tree_of types S2 r ≡ open_goal m (tree_of types S1 l) (tree_of types S1 H)
      → tree_of types S2 r ≡ open_goal m (tree_of types S L) (tree_of types S F)
  made_imply n G H l shape cons same list opened =
      opened
      ∙ ap (λ k. open_goal m k (tree_of types S1 H)) (list ∙ ap (λ c. spine (constant c) (term (tree_of types S G) (term (tree_of types S L) no_terms))) cons)
      ∙ ap (open_goal m (before (tree_of types S G) (tree_of types S L))) same
      ∙ opens_imply m (tree_of types S L) (tree_of types S F) (tree_of types S G) (tree_of types S H) shape

  pub made_with : (G H g h : TermId) → shape_of (tree_of types S F) ≡ together (tree_of types S G) (tree_of types S H)
      → tree_of types S1 g ≡ open_goal m (tree_of types S L) (tree_of types S G)
      → tree_of types S1 L ≡ tree_of types S L → tree_of types S1 H ≡ tree_of types S H → tree_of types S2 g ≡ tree_of types S1 g
      → tree_of types S2 h ≡ open_goal m (tree_of types S1 L) (tree_of types S1 H)
      → tree_of types S3 r ≡ both (tree_of types S2 g) (tree_of types S2 h)
      → tree_of types S3 r ≡ open_goal m (tree_of types S L) (tree_of types S F)
  made_with G H g h shape first list second still later made =
      made
      ∙ ap (λ u. both u (tree_of types S2 h)) (still ∙ first)
      ∙ ap (both (open_goal m (tree_of types S L) (tree_of types S G))) (later ∙ ap (λ k. open_goal m k (tree_of types S1 H)) list ∙ ap (open_goal m (tree_of types S L)) second)
      ∙ opens_with m (tree_of types S L) (tree_of types S F) (tree_of types S G) (tree_of types S H) shape
