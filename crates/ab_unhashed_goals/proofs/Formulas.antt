-- FORMULAS IN WHICH NO JUDGEMENT IS MARKED `#`: their parts, instances and images are such formulas.
use Rattle.std.proofs.Common.{◌≡◌, ℕ, List, subst}
use Rattle.ab_term.specs.Types.{Ty}
use Rattle.ab_term.specs.Terms.{Read}
use Rattle.ab_term.specs.Substitution.{instance}
use Rattle.ab_term.specs.Variables.{Substitution, value_in, image}
use Rattle.ab_term.specs.Sameness.{same_number}
use Rattle.ab_formulas.specs.Formulas.{a_formula, a_scope, StandsIn}
use Rattle.ab_formulas.specs.Forms.{both, either, implies, for_all, exists, nabla, form_of}
use Rattle.ab_formulas.proofs.Images.{image_stands}
use Rattle.ab_formulas.proofs.Scopes.{instance_stands}
use Rattle.ab_search_trees.proofs.Weights.{weight, Parts, parts_of}
use Rattle.ab_search_answers.specs.Unmarked.{HasNoHash}
use Rattle.ab_search_answers.proofs.Signs.{instance_none, image_none, PartsNone, parts_none}

-- A FORMULA that has none
pub record IsFine (F : Read) : Type 0 where
  pub stands : StandsIn a_formula F
  pub none : HasNoHash F

-- what a quantifier is given
pub record IsFineScope (t : Read) : Type 0 where
  pub stands : StandsIn a_scope t
  pub none : HasNoHash t

pub instance_fine : (t u : Read) → IsFineScope t → IsFine (instance t u)
instance_fine t u is = record { stands = instance_stands t u is.stands; none = instance_none t u is.stands is.none }

pub image_fine : (r : Substitution ℕ (List ℕ)) (F : Read) → IsFine F → IsFine (image same_number r F)
image_fine r F is = record { stands = image_stands (value_in same_number r) a_formula F is.stands; none = image_none r F is.stands is.none }

-- ITS PARTS

module _ (F : Read) (is : IsFine F) where
  pub of_both : (A B : Read) → form_of F ≡ both A B → IsFine A × IsFine B
  of_both A B e =
      let s = subst (Parts (weight F)) e (parts_of F is.stands) in
      let n = subst PartsNone e (parts_none F is.none) in
      (record { stands = s.0; none = n.0 }, record { stands = s.1; none = n.1 })

  pub of_either : (A B : Read) → form_of F ≡ either A B → IsFine A × IsFine B
  of_either A B e =
      let s = subst (Parts (weight F)) e (parts_of F is.stands) in
      let n = subst PartsNone e (parts_none F is.none) in
      (record { stands = s.0; none = n.0 }, record { stands = s.1; none = n.1 })

  pub of_implies : (A B : Read) → form_of F ≡ implies A B → IsFine A × IsFine B
  of_implies A B e =
      let s = subst (Parts (weight F)) e (parts_of F is.stands) in
      let n = subst PartsNone e (parts_none F is.none) in
      (record { stands = s.0; none = n.0 }, record { stands = s.1; none = n.1 })

  pub of_for_all : (A : Ty) (t : Read) → form_of F ≡ for_all A t → IsFineScope t
  of_for_all A t e = record { stands = (subst (Parts (weight F)) e (parts_of F is.stands)).0; none = subst PartsNone e (parts_none F is.none) }

  pub of_exists : (A : Ty) (t : Read) → form_of F ≡ exists A t → IsFineScope t
  of_exists A t e = record { stands = (subst (Parts (weight F)) e (parts_of F is.stands)).0; none = subst PartsNone e (parts_none F is.none) }

  pub of_nabla : (A : Ty) (t : Read) → form_of F ≡ nabla A t → IsFineScope t
  of_nabla A t e = record { stands = (subst (Parts (weight F)) e (parts_of F is.stands)).0; none = subst PartsNone e (parts_none F is.none) }
