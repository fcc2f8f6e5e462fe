-- Lists of one argument and of two.
use Rattle.std.proofs.Common.{◌≡◌, ◌≢◌, ℕ, zero, suc, List, [], ◌∷◌, length, map, get_or, refl, sym, ◌∙◌, ap, arith}
use Rattle.ab_term.specs.Terms as tree
use Rattle.ab_term.specs.Terms.{Terms, terms_of, Read}
use Rattle.ab_norm.specs.ab_store.specs.declared.node.TermId.{TermId}
use Rattle.ab_formulas.specs.Marks.{Marks, nowhere, below, in_both, by_scope, by_parts, by_mark, marks_made, marked, marks_of, marks_of_all, Sign}

module _ (f : TermId → Read) (h : tree.Head ℕ) where
  pub one_part : (ts : List TermId) (d : TermId) → length ts ≡ 1 → marks_made by_scope h (terms_of (map f ts)) (marks_of_all (terms_of (map f ts))) ≡ below (marks_of (f (get_or ts 0 d)))
  one_part [] d e = absurd (omega arith)
  one_part (t ∷ []) d e = refl
  one_part (t ∷ u ∷ ts) d e = absurd (omega arith)

  pub not_one : (ts : List TermId) → length ts ≢ 1 → marks_made by_scope h (terms_of (map f ts)) (marks_of_all (terms_of (map f ts))) ≡ nowhere
  not_one [] e = refl
  not_one (t ∷ []) e = absurd (e refl)
  not_one (t ∷ u ∷ ts) e = refl

  pub two_parts : (ts : List TermId) (d : TermId) → length ts ≡ 2 → marks_made by_parts h (terms_of (map f ts)) (marks_of_all (terms_of (map f ts))) ≡ in_both (marks_of (f (get_or ts 0 d))) (marks_of (f (get_or ts 1 d)))
  two_parts [] d e = absurd (omega arith)
  two_parts (t ∷ []) d e = absurd (omega arith)
  two_parts (t ∷ u ∷ []) d e = refl
  two_parts (t ∷ u ∷ v ∷ ts) d e = absurd (omega arith)

  pub not_two : (ts : List TermId) → length ts ≢ 2 → marks_made by_parts h (terms_of (map f ts)) (marks_of_all (terms_of (map f ts))) ≡ nowhere
  not_two [] e = refl
  not_two (t ∷ []) e = refl
  not_two (t ∷ u ∷ []) e = absurd (e refl)
  not_two (t ∷ u ∷ v ∷ ts) e = refl

  pub marked_first : (m : Sign) (ts : List TermId) (d : TermId) → length ts ≢ 0 → marks_made (by_mark m) h (terms_of (map f ts)) (marks_of_all (terms_of (map f ts))) ≡ marked m (f (get_or ts 0 d))
  marked_first m [] d e = absurd (e refl)
  marked_first m (t ∷ ts) d e = refl

  pub marked_none : (m : Sign) (ts : List TermId) → length ts ≡ 0 → marks_made (by_mark m) h (terms_of (map f ts)) (marks_of_all (terms_of (map f ts))) ≡ nowhere
  marked_none m [] e = refl
  marked_none m (t ∷ ts) e = absurd (omega arith)
