-- Constants that are given another number of terms.
use Rattle.std.proofs.Common.{◌≡◌, ◌≢◌, List, [], ◌∷◌, map, length, refl}
use Rattle.ab_term.specs.Types.{Ty}
use Rattle.ab_term.specs.Logical.{universal, nabla, implication}
use Rattle.ab_term.specs.Terms.{terms_of, Read}
use Rattle.ab_norm.specs.ab_store.specs.declared.node.TermId.{TermId}
use Rattle.ab_uses.specs.Layers.{last, layer_by}

module _ (f : TermId → Read) where
  pub not_one_universal : (A : Ty) (ts : List TermId) → length ts ≢ 1 → layer_by (universal A) (terms_of (map f ts)) ≡ last
  not_one_universal A [] e = refl
  not_one_universal A (t ∷ []) e = absurd (e refl)
  not_one_universal A (t ∷ u ∷ ts) e = refl

  pub not_one_nabla : (A : Ty) (ts : List TermId) → length ts ≢ 1 → layer_by (nabla A) (terms_of (map f ts)) ≡ last
  not_one_nabla A [] e = refl
  not_one_nabla A (t ∷ []) e = absurd (e refl)
  not_one_nabla A (t ∷ u ∷ ts) e = refl

  pub not_two : (ts : List TermId) → length ts ≢ 2 → layer_by implication (terms_of (map f ts)) ≡ last
  not_two [] e = refl
  not_two (t ∷ []) e = refl
  not_two (t ∷ u ∷ []) e = absurd (e refl)
  not_two (t ∷ u ∷ v ∷ ts) e = refl
