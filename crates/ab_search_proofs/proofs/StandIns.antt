-- What stands in for variables: terms of their types, without nominal constants, over the sequent's variables.
use Rattle.std.proofs.Common.{◌≡◌, inl, inr, ℕ, zero, List, [], ◌∷◌, map, codes, Option, Some, None, option_map, refl, sym, ◌∙◌, ap, subst}
use Rattle.std.specs.Prelude.{All, Contains}
use Rattle.std.proofs.lemmas.List.Elements.{All-map, All-weaker}
use Rattle.ab_term.specs.Types.{Ty}
use Rattle.ab_term.specs.Terms as tree
use Rattle.ab_term.specs.Terms.{Nominal, nominal, variable, Read}
use Rattle.ab_term.specs.Typing.{Signature, HasType}
use Rattle.ab_term.specs.Names.{support, rename, permute, moved_by, EqualUpToNames}
use Rattle.ab_term.specs.Translation.{forget}
use Rattle.ab_term.specs.Abstraction.{over, abstracted, given_names, name_terms}
use Rattle.ab_term.specs.Variables.{Substitution, variables, value_in, image, image_by, IsTyped}
use Rattle.ab_term.specs.Sameness.{same_number}
use Rattle.ab_term.proofs.Lists.{Contains-none, Contains-here, Contains-map}
use Rattle.ab_term.proofs.Depends.{image_agrees}
use Rattle.ab_term.proofs.Permuting.{rename_agrees}
use Rattle.ab_term.proofs.Renamings.{rename-image_by}
use Rattle.ab_term.proofs.Stands.{support-image}
use Rattle.ab_term.proofs.UpToNames.{rename-itself}
use Rattle.ab_term.proofs.Closing.{abstracted_typed}
use Rattle.ab_term.proofs.ClosingImages.{variables-close}
use Rattle.ab_term.proofs.Hinted.{named_over, given_typed}
use Rattle.ab_unifiers.proofs.Constants.{Has, ButAll, abstracted_has, has_support, expansion_of_has, name_terms_have}
use Rattle.ab_unifiers.proofs.Covered.{found_of_all}
use Rattle.ab_unifiers.proofs.Following.{plain, image_plain}
use Rattle.ab_formulas.specs.Sequents.{Sequent, in_terms}
use Rattle.ab_search_trees.proofs.Quantifiers.{given_variables}
use Rattle.ab_search_proofs.specs.Likeness.{StandIn, replaced, put_in, replacing, IsStandIn, AreStandIns}

-- an abstraction over constants holds no variable more
abstracted_variables : (x : List ℕ) (ns : List Nominal) (A : Ty) (t : Read) (y : tree.Variable ℕ) → Contains (variables (abstracted x (over ns A) (map nominal ns) t)) y → Contains (variables t) y
abstracted_variables x [] A t y m = m
abstracted_variables x (a ∷ ns) A t y m = abstracted_variables x ns A t y (variables-close zero (nominal a) (abstracted x (over ns A) (map nominal ns) t) y m).0

pub given_constants : (z : tree.Variable ℕ) (ns : List Nominal) (A : Ty) → Has (Contains ns) (given_names (codes "x") z ns A)
given_constants z ns A = expansion_of_has (Contains ns) (codes "x") A (variable z) (name_terms (codes "x") z.type (map nominal ns)) tt (name_terms_have (Contains ns) (codes "x") z.type ns (λ a m. m))

pub none_left : (l : List Nominal) → ((a : Nominal) → Contains l a → ⊥) → l ≡ []
none_left [] n = refl
none_left (a ∷ l) n = absurd (n a (Contains-here a l))

module _ (s : Sequent) (v : StandIn) (i : IsStandIn s v) where
  abbrev inner : Read
  inner = given_names (codes "x") (in_terms v.variable) v.reordered v.type

  stand_in_typed : (sg : Signature) → HasType sg [] (put_in v) (over v.constants v.type)
  stand_in_typed sg = abstracted_typed sg (codes "x") (named_over sg [] v.constants v.type) (given_typed sg (codes "x") [] (in_terms v.variable) v.reordered v.type i.typed)

  stand_in_nameless : support (put_in v) ≡ []
  stand_in_nameless = none_left (support (put_in v)) (λ a m.
      let p = has_support (ButAll (Contains v.reordered) v.constants) (put_in v) (abstracted_has (Contains v.reordered) (codes "x") v.constants v.type inner (given_constants (in_terms v.variable) v.reordered v.type)) a m in
      p.1 ((i.same a).1 p.0))

  stand_in_variables : (z : tree.Variable ℕ) → Contains (variables (put_in v)) z → z ≡ in_terms v.variable
  stand_in_variables z m = given_variables (codes "x") (in_terms v.variable) v.reordered v.type z (abstracted_variables (codes "x") v.constants v.type inner z m)

module _ (s : Sequent) where
  all_pairs : (P : tree.Variable ℕ × Read → Type 0) → ((v : StandIn) → IsStandIn s v → P (replaced v, put_in v)) → (vs : List StandIn) → All (IsStandIn s) vs → All P (replacing vs)
  all_pairs P each vs all = All-map P (λ (v : StandIn). (replaced v, put_in v)) vs (All-weaker (IsStandIn s) (λ v. P (replaced v, put_in v)) each vs all)

  module _ (vs : List StandIn) (are : AreStandIns s vs) where
    pub stand_ins_typed : (sg : Signature) → IsTyped sg (replacing vs)
    stand_ins_typed sg = all_pairs (λ p. HasType sg [] p.1 p.0.type) (λ v i. stand_in_typed s v i sg) vs are.all

    pub stand_ins_nameless : (y : tree.Variable ℕ) (t : Read) → value_in same_number (replacing vs) y ≡ Some t → support t ≡ []
    stand_ins_nameless = found_of_all (λ t. support t ≡ []) (replacing vs) (all_pairs (λ p. support p.1 ≡ []) (λ v i. stand_in_nameless s v i) vs are.all)

    pub stand_ins_known : (y : tree.Variable ℕ) (t : Read) → value_in same_number (replacing vs) y ≡ Some t → (z : tree.Variable ℕ) → Contains (variables t) z → Contains (map in_terms s.variables) z
    stand_ins_known = found_of_all (λ t. (z : tree.Variable ℕ) → Contains (variables t) z → Contains (map in_terms s.variables) z) (replacing vs)
        (all_pairs (λ p. (z : tree.Variable ℕ) → Contains (variables p.1) z → Contains (map in_terms s.variables) z)
        (λ v i z m. subst (Contains (map in_terms s.variables)) (sym (stand_in_variables s v i z m)) (Contains-map in_terms s.variables v.variable i.there)) vs are.all)

-- a substitution without nominal constants goes past permutations
module _ (r : Substitution ℕ (List ℕ)) (nameless : (y : tree.Variable ℕ) (v : Read) → value_in same_number r y ≡ Some v → support v ≡ []) where
  pub rename-under : (m : Nominal → Nominal) (t : Read) → rename m (image same_number r t) ≡ image same_number r (rename m t)
  rename-under m t = rename-image_by m (value_in same_number r) t ∙ image_agrees (λ x. option_map (rename m) (value_in same_number r x)) (value_in same_number r) (rename m t) (λ y c. value y (value_in same_number r y) refl)
    where
      value : (y : tree.Variable ℕ) (o : Option Read) → value_in same_number r y ≡ o → option_map (rename m) (value_in same_number r y) ≡ value_in same_number r y
      value y None e = ap (option_map (rename m)) e ∙ sym e
      value y (Some v) e = ap (option_map (rename m)) e ∙ ap Some (rename_agrees m (λ a. a) v (λ a k. absurd (Contains-none a (subst (λ l. Contains l a) (nameless y v e) k))) ∙ rename-itself v) ∙ sym e

  -- so it keeps what is equal up to names
  pub under_up_to_names : (t u : Read) → EqualUpToNames t u → EqualUpToNames (image same_number r t) (image same_number r u)
  under_up_to_names t u (ps, p, e) = (
    ps,
    p,
    ap forget (rename-under (moved_by ps) t) ∙ image_plain r (permute ps t) ∙ ap (image_by (plain r)) e ∙ sym (image_plain r u),
  )

  -- and brings no constant
  pub under_support : (t : Read) (a : Nominal) → Contains (support (image same_number r t)) a → Contains (support t) a
  under_support t a m = elim (support-image (value_in same_number r) t a m) [
    | inl b ↦ b
    | inr b ↦ absurd (Contains-none a (subst (λ l. Contains l a) (nameless b.0 b.1 (b.2).1) b.3))
  ]
