-- That a list is within another one, on shared terms, where stores only get terms.
use Rattle.std.proofs.Common.{◌≡◌, ℕ, zero, List, codes, ap, ◌∙◌}
use Rattle.ab_term.specs.Types.{o}
use Rattle.ab_term.specs.Logical.{universal, implication}
use Rattle.ab_term.specs.Terms.{constant, logical, index, lam, spine, no_terms, term, Read}
use Rattle.ab_term.specs.Substitution.{shift}
use Rattle.ab_norm.specs.ab_types.specs.Entries.{Table}
use Rattle.ab_norm.specs.ab_store.specs.declared.node.TermId.{TermId}
use Rattle.ab_norm.specs.ab_store.specs.Trees.{Contents, tree_of}
use Rattle.ab_unifiers.specs.Member.{in_the_list}
use Rattle.ab_theory.specs.Contexts.{is_within}

abbrev stays : Read → Read → Read → Read
stays X L K =
    spine (logical implication) (term (spine (constant (codes "member")) (in_the_list X L)) (term (spine (constant (codes "member")) (in_the_list X K)) no_terms))

module _ (T : Table) where
  pub made_within : (S S1 S2 S3 S4 S5 : Contents) (L K l k x b r : TermId)
      → tree_of T S1 l ≡ shift zero (tree_of T S L) → tree_of T S1 K ≡ tree_of T S K → tree_of T S2 k ≡ shift zero (tree_of T S1 K)
      → tree_of T S3 l ≡ tree_of T S1 l → tree_of T S3 k ≡ tree_of T S2 k → tree_of T S3 x ≡ spine (index zero) no_terms
      → tree_of T S4 b ≡ stays (tree_of T S3 x) (tree_of T S3 l) (tree_of T S3 k)
      → tree_of T S5 r ≡ spine (logical (universal o)) (term (lam o (codes "X") (tree_of T S4 b)) no_terms)
      → tree_of T S5 r ≡ is_within (tree_of T S L) (tree_of T S K)
  made_within S S1 S2 S3 S4 S5 L K l k x b r list other wider list_still wider_still item body made =
      let whole = λ (X M N : Read). spine (logical (universal o)) (term (lam o (codes "X") (stays X M N)) no_terms) in
      made
      ∙ ap (λ u. spine (logical (universal o)) (term (lam o (codes "X") u) no_terms)) body
      ∙ ap (λ M. whole (tree_of T S3 x) M (tree_of T S3 k)) (list_still ∙ list)
      ∙ ap (λ X. whole X (shift zero (tree_of T S L)) (tree_of T S3 k)) item
      ∙ ap (λ N. whole (spine (index zero) no_terms) (shift zero (tree_of T S L)) N) (wider_still ∙ wider ∙ ap (shift zero) other)
