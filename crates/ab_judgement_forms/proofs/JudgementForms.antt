-- Judgements that are given another number of terms.
use Rattle.std.proofs.Common.{◌≡◌, ◌≢◌, List, [], ◌∷◌, map, length, None, refl}
use Rattle.ab_term.specs.Logical.{judgement, focused_judgement}
use Rattle.ab_term.specs.Terms.{logical, spine, terms_of, Read}
use Rattle.ab_formulas.specs.Marks.{Sign}
use Rattle.ab_theory.specs.Judgements.{judgement_as}

module _ {X : Type 0} (f : X → Read) (m : Sign) where
  pub not_two : (ts : List X) → length ts ≢ 2 → judgement_as m (spine (logical judgement) (terms_of (map f ts))) ≡ None
  not_two [] e = refl
  not_two (t ∷ []) e = refl
  not_two (t ∷ u ∷ []) e = absurd (e refl)
  not_two (t ∷ u ∷ v ∷ ts) e = refl

  pub not_three : (ts : List X) → length ts ≢ 3 → judgement_as m (spine (logical focused_judgement) (terms_of (map f ts))) ≡ None
  not_three [] e = refl
  not_three (t ∷ []) e = refl
  not_three (t ∷ u ∷ []) e = refl
  not_three (t ∷ u ∷ v ∷ []) e = absurd (e refl)
  not_three (t ∷ u ∷ v ∷ w ∷ ts) e = refl
