-- Cover, for an equality.
use Rattle.std.proofs.Common.{◌≡◌, ℕ, List, [], ◌∷◌, map, true, Some, refl, sym, ◌∙◌, ap}
use Rattle.std.specs.Prelude.{All, Contains}
use Rattle.std.proofs.lemmas.List.Elements.{All-cons, All-nil, All-contains, All-head, All-tail}
use Rattle.ab_term.specs.Types.{Ty}
use Rattle.ab_term.specs.Terms.{Nominal, Variable, variable, Term, no_terms}
use Rattle.ab_term.specs.Typing.{Signature, HasType}
use Rattle.ab_term.specs.Translation.{forget, EqualPastHints}
use Rattle.ab_term.specs.Names.{support}
use Rattle.ab_term.specs.Variables.{Substitution, variables, value_in, image, image_by, IsTyped, IsClean}
use Rattle.ab_term.proofs.Compositions.{image_typed, image-composition}
use Rattle.ab_term.proofs.Expansions.{expansion_typed}
use Rattle.ab_term.proofs.Lists.{All-from_contains}
use Rattle.ab_term.specs.Sameness.{same_number}
use Rattle.ab_unifiers.specs.Replacements.{holds}
use Rattle.ab_unifiers.specs.Unification.{Equation, Answer, unified, apart, stuck, Solves}
use Rattle.ab_unifiers.specs.Unifiers.{AreDifferent, AreKnown, AreTyped, AreOver, IsUnifier, sides, given}
use Rattle.ab_unifiers.proofs.Problems.{answer_typed}
use Rattle.ab_unifiers.specs.Clauses.{Each, put_together}
use Rattle.ab_unifiers.specs.Alternatives.{Scope}
use Rattle.ab_unifiers.specs.InstanceCover.{CoversEquality}
use Rattle.ab_unifiers.proofs.Given.{apart_none, most_general}
use Rattle.ab_unifiers.proofs.Past.{own, AgreeOn, bare, forget-image, forget-own, images_agree}
use Rattle.ab_unifiers.proofs.Constants.{Has, has_support, support_has, image_by_has, expansion_of_has}
use Rattle.ab_unifiers.proofs.Rows.{each_any, each_held, each_weaker, found_each, keys_put_together, together_typed, together_all}
use Rattle.ab_unifiers.proofs.Lifting.{own_value}
use Rattle.ab_unifiers.proofs.Covered.{found_of_all}

module _ (sg : Signature) {Hint : Type 0} (x : Hint) (s : Substitution ℕ Hint) (s_typed : IsTyped sg s) where
  abbrev pub values : List (Variable ℕ) → List (Term ℕ Hint)
  values V = map (λ y. image same_number s (own x y)) V

  values_typed : (V : List (Variable ℕ)) → Each (λ y t. HasType sg [] t y.type) V (values V)
  values_typed [] = tt
  values_typed (y ∷ V) = (image_typed sg same_number s s_typed (expansion_typed sg x y.type [] (variable y) refl), values_typed V)

  -- what s does to the listed variables, and to no others
  abbrev pub cut : List (Variable ℕ) → Substitution ℕ Hint
  cut V = put_together V (values V)

  cut_typed : (V : List (Variable ℕ)) → IsTyped sg (cut V)
  cut_typed V = together_typed sg V (values V) (values_typed V)

  own_met : (u : Substitution ℕ Hint) → IsTyped sg u → (V : List (Variable ℕ)) → Each (λ y t. value_in same_number u y ≡ Some t) V (values V) → Each (λ y t. EqualPastHints (image same_number u (own x y)) (image same_number s (own x y))) V (values V)
  own_met u p [] e = tt
  own_met u p (y ∷ V) e = (forget-image u (own x y) ∙ ap (image_by (bare u)) (forget-own x y) ∙ own_value sg u p y (image same_number s (own x y)) e.0, own_met u p V e.1)

  cut_agrees : (V : List (Variable ℕ)) → AreDifferent V → AgreeOn x V (cut V) s
  cut_agrees V d = each_held (λ y t. EqualPastHints (image same_number (cut V) (own x y)) (image same_number s (own x y))) (λ y. EqualPastHints (image same_number (cut V) (own x y)) (image same_number s (own x y))) (λ y t r. r) V (values V)
      (own_met (cut V) (cut_typed V) V (found_each (cut V) V (values V) d (λ y h t e. e) (each_any (λ y t. HasType sg [] t y.type) V (values V) (values_typed V))))

  values_clean : (P : Nominal → Type 0) → ((y : Variable ℕ) (t : Term ℕ Hint) → value_in same_number s y ≡ Some t → Has P t) → (V : List (Variable ℕ)) → Each (λ y t. Has P t) V (values V)
  values_clean P h [] = tt
  values_clean P h (y ∷ V) = (image_by_has P (value_in same_number s) h (own x y) (expansion_of_has P x y.type (variable y) no_terms tt tt), values_clean P h V)

  module _ (sequent : Scope Hint) (different : AreDifferent sequent.variables) (known : AreKnown sequent.cells sequent.variables) (t u : Term ℕ Hint) (A : Ty) (d : HasType sg [] t A) (e : HasType sg [] u A)
      (in_t : (y : Variable ℕ) → holds (variables t) y ≡ true → holds sequent.variables y ≡ true) (in_u : (y : Variable ℕ) → holds (variables u) y ≡ true → holds sequent.variables y ≡ true)
      (clean : IsClean s (t ∷ u ∷ [])) (same : EqualPastHints (image same_number s t) (image same_number s u)) where
    abbrev equations : List (Equation Hint)
    equations = record { place = 0; left = t; right = u } ∷ []

    abbrev V : List (Variable ℕ)
    V = sequent.variables

    typed : AreTyped sg equations
    typed = (([], A, d, e), tt)

    agrees : {B : Ty} {v : Term ℕ Hint} → HasType sg [] v B → ((y : Variable ℕ) → holds (variables v) y ≡ true → holds V y ≡ true) → EqualPastHints (image same_number (cut V) v) (image same_number s v)
    agrees k h = images_agree sg x (cut V) s (cut_typed V) s_typed V (cut_agrees V different) k h

    -- none of the constants of the two sides
    abbrev Absent : Nominal → Type 0
    Absent a = ¬ (Contains (support t) a) × ¬ (Contains (support u) a)

    s_absent : (y : Variable ℕ) (v : Term ℕ Hint) → value_in same_number s y ≡ Some v → Has Absent v
    s_absent y v f =
        let all = found_of_all (λ v. All (λ t. All (λ a. ¬ (Contains (support t) a)) (support v)) (t ∷ u ∷ [])) s clean y v f in
        support_has Absent v (λ a m. (
          All-contains (λ a. ¬ (Contains (support t) a)) (support v) a (All-head (λ t. All (λ a. ¬ (Contains (support t) a)) (support v)) t (u ∷ []) all) m,
          All-contains (λ a. ¬ (Contains (support u) a)) (support v) a (All-head (λ t. All (λ a. ¬ (Contains (support t) a)) (support v)) u [] (All-tail (λ t. All (λ a. ¬ (Contains (support t) a)) (support v)) t (u ∷ []) all)) m,
        ))

    cut_clean : IsClean (cut V) (sides equations)
    cut_clean = together_all (λ v. All (λ t. All (λ a. ¬ (Contains (support t) a)) (support v)) (t ∷ u ∷ [])) V (values V)
        (each_weaker (λ y v. Has Absent v) (λ y v. All (λ t. All (λ a. ¬ (Contains (support t) a)) (support v)) (t ∷ u ∷ []))
        (λ y v h. All-cons (λ t. All (λ a. ¬ (Contains (support t) a)) (support v)) t (u ∷ []) (All-from_contains (λ a. ¬ (Contains (support t) a)) (support v) (λ a m. (has_support Absent v h a m).0))
        (All-cons (λ t. All (λ a. ¬ (Contains (support t) a)) (support v)) u [] (All-from_contains (λ a. ¬ (Contains (support u) a)) (support v) (λ a m. (has_support Absent v h a m).1)) (All-nil (λ t. All (λ a. ¬ (Contains (support t) a)) (support v)))))
        V (values V) (values_clean Absent s_absent V))

    is_unifier : IsUnifier sg V equations (cut V)
    is_unifier = record {
      within = λ y h. ap (λ l. holds l y) (sym (keys_put_together V (values V) (each_any (λ y t. HasType sg [] t y.type) V (values V) (values_typed V)))) ∙ h;
      typed = cut_typed V;
      clean = cut_clean;
      unifies = (agrees d in_t ∙ same ∙ sym (agrees e in_u), tt);
    }

    over_cells : AreOver sequent.cells equations
    over_cells = ((λ y h. known y (in_t y h)), (λ y h. known y (in_u y h)), tt)

    pub equality_covered : (a : Answer Hint) → Solves x (given equations sequent.cells V) a → CoversEquality sg sequent a s
    equality_covered apart p = apart_none sg x equations sequent.cells V typed known over_cells (cut V) is_unifier p
    equality_covered (stuck i) p = tt
    equality_covered (unified more q) p =
        let served = most_general sg x equations sequent.cells V typed known over_cells (cut V) is_unifier more q p in
        let q_typed : IsTyped sg q = answer_typed sg x equations sequent.cells V typed known more q p in (
          served.0,
          served.1,
          λ v B k h.
              ap forget (sym (image-composition sg same_number q q_typed served.0 served.1 k))
              ∙ sym (served.2 [] v B k (λ y g. known y (h y g)))
              ∙ agrees k h,
        )
