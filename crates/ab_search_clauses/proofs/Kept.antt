-- WHERE VARIABLES ARE FILLED with constants, the others stay in the term.
use Rattle.std.proofs.Common.{◌≡◌, inl, inr, ℕ, List, [], codes, true, Option, Some, None, option_map, refl, sym, ◌∙◌, ap, subst}
use Rattle.std.specs.Prelude.{Contains}
use Rattle.std.proofs.lemmas.Bool.{or_cases, or_left, or_right}
use Rattle.ab_term.specs.Types.{Ty, kind}
use Rattle.ab_term.specs.Terms.{Nominal, Variable, constant, logical, nominal, variable, index, spine, Term, Terms, no_terms, Read}
use Rattle.ab_term.specs.Typing.{Signature, HasType, TakeType, typed_lam, typed_spine, take_none, take_term}
use Rattle.ab_term.specs.Translation.{forget}
use Rattle.ab_term.specs.Expansion.{expansion}
use Rattle.ab_term.specs.Substitution.{reduce}
use Rattle.ab_term.specs.Variables.{Substitution, variables, variables_of_all, put_for, value_in, image, image_by, image_all_by, IsTyped}
use Rattle.ab_term.specs.Sameness.{same_number, same_numbered}
use Rattle.ab_term.proofs.Compositions.{map_typed}
use Rattle.ab_term.proofs.Expansions.{expansion_typed, reduce-expansion_of}
use Rattle.ab_term.proofs.Images.{IsTypedMap, image_all_by_typed}
use Rattle.ab_term.proofs.PastHints.{variables-forget}
use Rattle.ab_term.proofs.Same.{same_numbered-Decides}
use Rattle.ab_term.proofs.Translations.{translate-expansion, translate_typed}
use Rattle.ab_term.proofs.Unique.{one_type}
use Rattle.ab_unifiers.specs.Replacements.{holds}
use Rattle.ab_unifiers.specs.Clauses.{name_term}
use Rattle.ab_unifiers.proofs.Agreeing.{holds_front, holds_behind}
use Rattle.ab_unifiers.proofs.Following.{plain, plain_typed, image_plain}
use Rattle.ab_unifiers.proofs.Rows.{held_append}

module _ (sg : Signature) (names : List Nominal) (fill : Substitution ℕ (List ℕ)) (filled : IsTyped sg fill) (constants : (y : Variable ℕ) (v : Read) → value_in same_number fill y ≡ Some v → (a : Nominal) × (¬ (Contains names a)) × (name_term (codes "x") a ≡ v)) where
  -- the constant for a variable
  pub constant_for : (y : Variable ℕ) (v : Read) → value_in same_number fill y ≡ Some v → (a : Nominal) × (¬ (Contains names a)) × (a.type ≡ y.type) × (forget v ≡ expansion tt y.type (nominal a))
  constant_for y v e =
      let c = constants y v e in
      let a = c.0 in
      let type : a.type ≡ y.type = one_type sg (expansion_typed sg (codes "x") a.type [] (nominal a) refl) (subst (λ t. HasType sg [] t y.type) (sym c.2) (map_typed sg same_number fill filled y v e)) in
      (a, c.1, type, ap forget (sym c.2) ∙ translate-expansion (λ k. k) (λ h. tt) (codes "x") a.type (nominal a) ∙ ap (λ A. expansion tt A (nominal a)) type)

  abbrev put : Variable ℕ → Option (Term ℕ (Unit {0}))
  put = plain fill

  put_typed : IsTypedMap sg put
  put_typed = plain_typed sg fill filled

  module _ (z : Variable ℕ) (stays : value_in same_number fill z ≡ None) where
    at_variable : (G : List Ty) (c : List ℕ) (y : Variable ℕ) (ts : Terms ℕ (Unit {0})) → TakeType sg G ts y.type (kind c) → (holds (variables_of_all ts) z ≡ true → holds (variables_of_all (image_all_by put ts)) z ≡ true)
        → holds (variables {Hint = Unit {0}} (spine (variable y) ts)) z ≡ true → holds (variables (image_by put (spine (variable y) ts))) z ≡ true
    at_variable G c y ts ds rest h = go (value_in same_number fill y) refl
      where
        go : (o : Option Read) → value_in same_number fill y ≡ o → holds (variables (put_for y (option_map forget (value_in same_number fill y)) (image_all_by put ts))) z ≡ true
        go None e = ap (λ o. holds (variables (put_for y (option_map forget o) (image_all_by put ts))) z) e ∙ (elim (or_cases (same_numbered y z) (holds (variables_of_all ts) z) h) [
          | inl a ↦ or_left (same_numbered y z) (holds (variables_of_all (image_all_by put ts)) z) a
          | inr a ↦ or_right (same_numbered y z) (holds (variables_of_all (image_all_by put ts)) z) (rest a)
        ])
        go (Some v) e =
            let c2 = constant_for y v e in
            ap (λ o. holds (variables (put_for y (option_map forget o) (image_all_by put ts))) z) e
            ∙ ap (λ u. holds (variables (reduce y.type u (image_all_by put ts))) z) c2.3
            ∙ ap (λ t. holds (variables t) z) (reduce-expansion_of sg ℕ y.type G (nominal c2.0) no_terms (image_all_by put ts) c (image_all_by_typed sg ℕ (Unit {0}) put put_typed ds))
            ∙ (elim (or_cases (same_numbered y z) (holds (variables_of_all ts) z) h) [
              | inl a ↦ absurd (let same : y ≡ z = (same_numbered-Decides y z).0 a in let bad : Some v ≡ None = sym e ∙ ap (value_in same_number fill) same ∙ stays in cc)
              | inr a ↦ rest a
            ])

    mutual
      kept : {G : List Ty} {t : Term ℕ (Unit {0})} {A : Ty} → HasType sg G t A → holds (variables t) z ≡ true → holds (variables (image_by put t)) z ≡ true
      kept (typed_lam d) h = kept d h
      kept (typed_spine {h = constant b} e ds) h = all_kept ds h
      kept (typed_spine {h = logical l} e ds) h = all_kept ds h
      kept (typed_spine {h = nominal a} e ds) h = all_kept ds h
      kept (typed_spine {h = index i} e ds) h = all_kept ds h
      kept {G = G} (typed_spine {A = D} {h = variable y} {ts = ts} {k = c} e ds) h =
          let same : D ≡ y.type = cc in
          at_variable G c y ts (subst (λ A. TakeType sg G ts A (kind c)) same ds) (λ q. all_kept ds q) h

      all_kept : {G : List Ty} {ts : Terms ℕ (Unit {0})} {A B : Ty} → TakeType sg G ts A B → holds (variables_of_all ts) z ≡ true → holds (variables_of_all (image_all_by put ts)) z ≡ true
      all_kept take_none h = h
      all_kept (take_term {t = t} {ts = ts} d ds) h = elim (held_append (variables t) (variables_of_all ts) z h) [
        | inl a ↦ holds_front (variables (image_by put t)) (variables_of_all (image_all_by put ts)) z (kept d a)
        | inr a ↦ holds_behind (variables (image_by put t)) (variables_of_all (image_all_by put ts)) z (all_kept ds a)
      ]

    pub stays_there : {G : List Ty} {t : Read} {A : Ty} → HasType sg G t A → holds (variables t) z ≡ true → holds (variables (image same_number fill t)) z ≡ true
    stays_there {t = t} d h =
        ap (λ l. holds l z) (sym (variables-forget (image same_number fill t)))
        ∙ ap (λ k. holds (variables k) z) (image_plain fill t)
        ∙ kept (translate_typed sg (λ k. k) (λ x. tt) d) (ap (λ l. holds l z) (variables-forget t) ∙ h)
