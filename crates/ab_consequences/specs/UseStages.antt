-- THE STAGES OF A USE: what it puts where it takes the parts of a formula off.
use Rattle.std.specs.Prelude.{ℕ, suc, List, [], ◌∷◌, codes}
use Rattle.ab_term.specs.Types.{Ty}
use Rattle.ab_term.specs.Logical.{universal, nabla, implication}
use Rattle.ab_term.specs.Terms.{Nominal, logical, lam, spine, no_terms, term, Read}
use Rattle.ab_term.specs.Typing.{Signature, HasType}
use Rattle.ab_term.specs.Abstraction.{over, given_names}
use Rattle.ab_term.specs.Variables.{Substitution, image}
use Rattle.ab_term.specs.Sameness.{same_number}
use Rattle.ab_unifiers.specs.Choices.{outside}
use Rattle.ab_theory.specs.Pieces.{Part, variable_for, given_term, constant_for, antecedent}
use Rattle.ab_consequences.specs.Leading.{Stage, instance_by, chosen, met, Meets}

-- THE FORMULA HAS THESE PARTS in front: a quantifier at the type, or an antecedent, for each; a term that is given is one of
-- the quantifier's type
pub data HasParts (sg : Signature) : List Part → Read → Type 0 where
  has_none : {F : Read} → HasParts sg [] F
  has_variable : {x y : List ℕ} {A : Ty} {ps : List Part} {t : Read}
      → HasParts sg ps t → HasParts sg (variable_for x A ∷ ps) (spine (logical (universal A)) (term (lam A y t) no_terms))
  has_given : {u : Read} {y : List ℕ} {A : Ty} {ps : List Part} {t : Read}
      → HasType sg [] u A → HasParts sg ps t → HasParts sg (given_term u ∷ ps) (spine (logical (universal A)) (term (lam A y t) no_terms))
  has_constant : {y : List ℕ} {A : Ty} {ps : List Part} {t : Read}
      → HasParts sg ps t → HasParts sg (constant_for A ∷ ps) (spine (logical (nabla A)) (term (lam A y t) no_terms))
  has_antecedent : {A B : Read} {ps : List Part}
      → HasParts sg ps B → HasParts sg (antecedent ∷ ps) (spine (logical implication) (term A (term B no_terms)))

-- what is put for the parts, by these constants for the names of `nabla`s; variables are numbered from n
abbrev pub stages_of : List Nominal → ℕ → List Part → List Nominal → List Stage
stages_of held n [] names = []
stages_of held n (variable_for x A ∷ ps) names =
    let free = outside held names in
    instance_by (given_names (codes "x") (record { name = n; type = over free A }) free A) ∷ stages_of held (suc n) ps names
stages_of held n (given_term t ∷ ps) names = instance_by t ∷ stages_of held n ps names
stages_of held n (constant_for A ∷ ps) [] = []
stages_of held n (constant_for A ∷ ps) (a ∷ names) = chosen a ∷ stages_of held n ps names
stages_of held n (antecedent ∷ ps) names = met ∷ stages_of held n ps names

-- with terms for variables
abbrev pub stage_under : Substitution ℕ (List ℕ) → Stage → Stage
stage_under q (instance_by t) = instance_by (image same_number q t)
stage_under q (chosen a) = chosen a
stage_under q met = met

-- the second formulas meet the first, one by one
abbrev pub MeetEach : List Read → List Read → Type 0
MeetEach [] [] = Unit {0}
MeetEach (A ∷ As) (H ∷ Hs) = Meets H A × MeetEach As Hs
MeetEach _ _ = ⊥
