-- Formulas with parts in front, and what is left of them once a part is taken off.
use Rattle.std.proofs.Common.{◌≡◌, ℕ, List, [], ◌∷◌, map, subst}
use Rattle.ab_term.specs.Types.{Ty, arrow, prop}
use Rattle.ab_term.specs.Logical.{universal, nabla}
use Rattle.ab_term.specs.Terms.{Nominal, logical, lam, spine, no_terms, term, Read}
use Rattle.ab_term.specs.Typing.{Signature, IsExtendedBy, HasType, typed_spine, take_term}
use Rattle.ab_term.proofs.Preservation.{instance_typed}
use Rattle.ab_term.proofs.Unique.{more_typed}
use Rattle.ab_theory.specs.Pieces.{Part, variable_for, given_term, constant_for, antecedent}
use Rattle.ab_theory.specs.Uses.{with_term, left_side, right_side, used, types_chosen}
use Rattle.ab_consequences.proofs.UseStages.{front_put}
use Rattle.ab_uses.specs.UseCells.{HasParts, has_none, has_variable, has_given, has_constant, has_antecedent}

module _ (sg : Signature) where
  pub front_first : {p : Part} {ps : List Part} {F : Read} → HasParts sg (p ∷ ps) F → HasParts sg (p ∷ []) F
  front_first (has_variable h) = has_variable has_none
  front_first (has_given d h) = has_given d has_none
  front_first (has_constant h) = has_constant has_none
  front_first (has_antecedent h) = has_antecedent has_none

  -- what is left has the other parts in front
  pub front_rest : (held : List Nominal) (n : ℕ) (names : List Nominal) {p : Part} {ps : List Part} {F : Read} → map (λ a. a.type) names ≡ types_chosen (p ∷ ps)
      → HasParts sg (p ∷ ps) F → HasParts sg ps (used held n (p ∷ []) names F).result
  front_rest held n names e (has_variable h) = front_put sg _ _ _ h
  front_rest held n names e (has_given d h) = front_put sg _ _ _ h
  front_rest held n [] e (has_constant h) = absurd (cc)
  front_rest held n (a ∷ names) e (has_constant h) = front_put sg _ _ _ h
  front_rest held n names e (has_antecedent h) = h

  universal_scope : {A B : Ty} {y : List ℕ} {t : Read} → HasType sg [] (spine (logical (universal A)) (term (lam B y t) no_terms)) prop → HasType sg [] (lam B y t) (arrow A prop)
  universal_scope {A = A} {B = B} {y = y} {t = t} (typed_spine e (take_term {A = D} d ds)) = let same : D ≡ arrow A prop = cc in subst (HasType sg [] (lam B y t)) same d

  nabla_scope : {A B : Ty} {y : List ℕ} {t : Read} → HasType sg [] (spine (logical (nabla A)) (term (lam B y t) no_terms)) prop → HasType sg [] (lam B y t) (arrow A prop)
  nabla_scope {A = A} {B = B} {y = y} {t = t} (typed_spine e (take_term {A = D} d ds)) = let same : D ≡ arrow A prop = cc in subst (HasType sg [] (lam B y t)) same d

  pub variable_put : {x : List ℕ} {A : Ty} {F u : Read} → HasParts sg (variable_for x A ∷ []) F → HasType sg [] F prop → HasType sg [] u A → HasType sg [] (with_term F u) prop
  variable_put (has_variable h) d e = instance_typed sg (universal_scope d) e

  pub given_is : {F u : Read} → HasParts sg (given_term u ∷ []) F → (A : Ty) × HasType sg [] u A
  given_is (has_given {A = A} e h) = (A, e)

  pub given_put : {F u : Read} → HasParts sg (given_term u ∷ []) F → HasType sg [] F prop → HasType sg [] (with_term F u) prop
  given_put (has_given e h) d = instance_typed sg (universal_scope d) e

  pub constant_put : {A : Ty} {F u : Read} → HasParts sg (constant_for A ∷ []) F → HasType sg [] F prop → HasType sg [] u A → HasType sg [] (with_term F u) prop
  constant_put (has_constant h) d e = instance_typed sg (nabla_scope d) e

  pub sides_typed : {F : Read} → HasParts sg (antecedent ∷ []) F → HasType sg [] F prop → HasType sg [] (left_side F) prop × HasType sg [] (right_side F) prop
  sides_typed (has_antecedent {A = A} {B = B} h) (typed_spine e (take_term {A = C} d (take_term {A = D} f ds))) =
      let first : C ≡ prop = cc in
      let second : D ≡ prop = cc in
      (subst (HasType sg [] A) first d, subst (HasType sg [] B) second f)

pub front_more : (sg more : Signature) → IsExtendedBy sg more → {ps : List Part} {F : Read} → HasParts sg ps F → HasParts more ps F
front_more sg more e has_none = has_none
front_more sg more e (has_variable h) = has_variable (front_more sg more e h)
front_more sg more e (has_given d h) = has_given (more_typed sg more e d) (front_more sg more e h)
front_more sg more e (has_constant h) = has_constant (front_more sg more e h)
front_more sg more e (has_antecedent h) = has_antecedent (front_more sg more e h)
