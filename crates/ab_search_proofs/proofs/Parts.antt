-- The parts of a formula are formulas, and hold no variable more.
use Rattle.std.proofs.Common.{◌≡◌, inl, inr, ℕ, List, [], ◌++◌, subst}
use Rattle.std.specs.Prelude.{Contains}
use Rattle.std.proofs.lemmas.List.Elements.{All-contains, Contains-append_left, Contains-append_right}
use Rattle.ab_term.specs.Types.{Ty, arrow, prop}
use Rattle.ab_term.specs.Logical as plain
use Rattle.ab_term.specs.Logical.{Logical, logical_type}
use Rattle.ab_term.specs.Terms.{Variable, constant, logical, nominal, variable, index, lam, spine, Terms, no_terms, term, Read}
use Rattle.ab_term.specs.Typing.{Signature, HasType, TakeType, typed_spine, take_term}
use Rattle.ab_term.specs.Substitution.{instance}
use Rattle.ab_term.specs.Variables.{variables, variables_of_all}
use Rattle.ab_term.proofs.Lists.{All-from_contains}
use Rattle.ab_term.proofs.Preservation.{instance_typed}
use Rattle.ab_term.proofs.Stands.{variables-instance}
use Rattle.ab_formulas.specs.Formulas.{a_formula, a_scope, StandsIn, AllStandIn, places_of_constant, IsFormula}
use Rattle.ab_formulas.specs.Forms.{Form, both, either, implies, for_all, exists, nabla, form_of, form_alone, form_with, form_between}
use Rattle.ab_formulas.specs.GoalTerms.{HoldsOnly}
use Rattle.ab_formulas.proofs.Scopes.{instance_stands}

-- what holds no variable more holds these alone
pub holds_part : (ys : List (Variable ℕ)) (t u : Read) → HoldsOnly ys t → ((y : Variable ℕ) → Contains (variables u) y → Contains (variables t) y) → HoldsOnly ys u
holds_part ys t u all within = All-from_contains (Contains ys) (variables u) (λ y m. All-contains (Contains ys) (variables t) y all (within y m))

module _ (sg : Signature) (ys : List (Variable ℕ)) where
  pub record IsPart (F : Read) : Type 0 where
    pub formula : IsFormula sg F
    pub known : HoldsOnly ys F

  -- what a quantifier is given
  pub record IsScope (A : Ty) (F : Read) : Type 0 where
    pub typed : HasType sg [] F (arrow A prop)
    pub stands : StandsIn a_scope F
    pub known : HoldsOnly ys F

  pub instance_part : {A : Ty} {F t : Read} → IsScope A F → HasType sg [] t A → HoldsOnly ys t → IsPart (instance F t)
  instance_part {F = F} {t = t} s d k = record {
    formula = record { typed = instance_typed sg s.typed d; stands = instance_stands F t s.stands };
    known = All-from_contains (Contains ys) (variables (instance F t)) (λ y m. elim (variables-instance F t y m) [
      | inl a ↦ All-contains (Contains ys) (variables F) y s.known a
      | inr a ↦ All-contains (Contains ys) (variables t) y k a
    ]);
  }

  first_known : (l : Logical) (t : Read) (ts : Terms ℕ (List ℕ)) → HoldsOnly ys (spine (logical l) (term t ts)) → HoldsOnly ys t
  first_known l t ts k = holds_part ys (spine (logical l) (term t ts)) t k (λ y m. Contains-append_left (variables t) (variables_of_all ts) y m)

  second_known : (l : Logical) (t u : Read) (ts : Terms ℕ (List ℕ)) → HoldsOnly ys (spine (logical l) (term t (term u ts))) → HoldsOnly ys u
  second_known l t u ts k = holds_part ys (spine (logical l) (term t (term u ts))) u k (λ y m. Contains-append_right (variables t) (variables u ++ variables_of_all ts) y (Contains-append_left (variables u) (variables_of_all ts) y m))

  abbrev pub Parts : Form → Type 0
  Parts (both A B) = IsPart A × IsPart B
  Parts (either A B) = IsPart A × IsPart B
  Parts (implies A B) = IsPart A × IsPart B
  Parts (for_all A F) = IsScope A F
  Parts (exists A F) = IsScope A F
  Parts (nabla A F) = IsScope A F
  Parts _ = Unit {0}

  arguments_of : {l : Logical} {ts : Terms ℕ (List ℕ)} {A : Ty} → HasType sg [] (spine (logical l) ts) A → TakeType sg [] ts (logical_type l) A
  arguments_of {l = l} {ts = ts} {A = A} (typed_spine {A = D} e ds) = let same : D ≡ logical_type l = cc in subst (λ E. TakeType sg [] ts E A) same ds

  first_of : {A B C : Ty} {t : Read} {ts : Terms ℕ (List ℕ)} → TakeType sg [] (term t ts) (arrow A B) C → HasType sg [] t A
  first_of (take_term d ds) = d

  rest_of : {A B C : Ty} {t : Read} {ts : Terms ℕ (List ℕ)} → TakeType sg [] (term t ts) (arrow A B) C → TakeType sg [] ts B C
  rest_of (take_term d ds) = ds

  parts_alone : (l : Logical) → Parts (form_alone l)
  parts_alone plain.truth = tt
  parts_alone plain.falsity = tt
  parts_alone _ = tt

  parts_with : (l : Logical) (t : Read) → TakeType sg [] (term t no_terms) (logical_type l) prop → AllStandIn (places_of_constant l) (term t no_terms) → HoldsOnly ys t → Parts (form_with l t)
  parts_with (plain.universal A) t d s k = record { typed = first_of d; stands = s.0; known = k }
  parts_with (plain.existential A) t d s k = record { typed = first_of d; stands = s.0; known = k }
  parts_with (plain.nabla A) t d s k = record { typed = first_of d; stands = s.0; known = k }
  parts_with (plain.star i) t d s k = tt
  parts_with (plain.at_sign i) t d s k = tt
  parts_with (plain.plus i) t d s k = tt
  parts_with (plain.hash i) t d s k = tt
  parts_with _ t d s k = tt

  two : {t u : Read} {C : Ty} → TakeType sg [] (term t (term u no_terms)) (arrow prop (arrow prop prop)) C → StandsIn a_formula t → StandsIn a_formula u → HoldsOnly ys t → HoldsOnly ys u → IsPart t × IsPart u
  two d s v j k = (record { formula = record { typed = first_of d; stands = s }; known = j }, record { formula = record { typed = first_of (rest_of d); stands = v }; known = k })

  parts_between : (l : Logical) (t u : Read) → TakeType sg [] (term t (term u no_terms)) (logical_type l) prop → AllStandIn (places_of_constant l) (term t (term u no_terms)) → HoldsOnly ys t → HoldsOnly ys u → Parts (form_between l t u)
  parts_between plain.conjunction t u d s j k = two d s.0 s.1.0 j k
  parts_between plain.disjunction t u d s j k = two d s.0 s.1.0 j k
  parts_between plain.implication t u d s j k = two d s.0 s.1.0 j k
  parts_between (plain.equality A) t u d s j k = tt
  parts_between _ t u d s j k = tt

  pub parts : (C : Read) → IsFormula sg C → HoldsOnly ys C → Parts (form_of C)
  parts (lam A x t) p k = absurd p.stands
  parts (spine (constant c) ts) p k = tt
  parts (spine (nominal a) ts) p k = tt
  parts (spine (variable y) ts) p k = absurd p.stands.0
  parts (spine (index i) ts) p k = absurd p.stands.0
  parts (spine (logical l) no_terms) p k = parts_alone l
  parts (spine (logical l) (term t no_terms)) p k = parts_with l t (arguments_of p.typed) p.stands.1 (first_known l t no_terms k)
  parts (spine (logical l) (term t (term u no_terms))) p k = parts_between l t u (arguments_of p.typed) p.stands.1 (first_known l t (term u no_terms) k) (second_known l t u no_terms k)
  parts (spine (logical l) (term t (term u (term v ts)))) p k = tt
