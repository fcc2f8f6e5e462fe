-- Heads that are given another number of terms.
use Rattle.std.proofs.Common.{◌≡◌, ◌≢◌, ℕ, List, [], ◌∷◌, map, length, refl}
use Rattle.ab_term.specs.Terms as tree
use Rattle.ab_term.specs.Terms.{terms_of, Read}
use Rattle.ab_norm.specs.ab_store.specs.declared.node.TermId.{TermId}
use Rattle.ab_sequents.specs.SizeViews.{other, outer_by, quantifier, arrow_role}

module _ (f : TermId → Read) (h : tree.Head ℕ) where
  pub not_one : (ts : List TermId) → length ts ≢ 1 → outer_by quantifier h (terms_of (map f ts)) ≡ other
  not_one [] e = refl
  not_one (t ∷ []) e = absurd (e refl)
  not_one (t ∷ u ∷ ts) e = refl

  pub not_two : (ts : List TermId) → length ts ≢ 2 → outer_by arrow_role h (terms_of (map f ts)) ≡ other
  not_two [] e = refl
  not_two (t ∷ []) e = refl
  not_two (t ∷ u ∷ []) e = absurd (e refl)
  not_two (t ∷ u ∷ v ∷ ts) e = refl
